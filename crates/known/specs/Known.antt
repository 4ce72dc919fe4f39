-- What is known of a log, its waiting part and an index: as it is learned from their bytes, and what look-up, store and sync make of it, for any bytes and
-- anything that is said to be known.
use Rattle.std.specs.Prelude.{Bool, true, false, cond, ◌&&◌, ◌||◌, List, [], ◌∷◌, ℕ, zero, suc, ◌+◌, ◌-◌, eqb, leb, ltb, take, Some, None, Option as Optional, Ok, Err, Result}
use Rattle.std.proofs.Math.Option.{Option, none, some}
use Rattle.bedrock.specs.Choice.{on}
use Rattle.buffer.specs.Bytes.{Bytes, same}
use Rattle.sha1_digest.specs.Sha1.{sha1_of}
use Rattle.refusal.specs.declared.Refusal.{Refusal}
use Rattle.refusal.specs.declared.Refusal.TheVariants.{NotHeld, NotKnown}
use Rattle.kind.specs.Kind.{lawful, zero_score}
use Rattle.block.specs.Block.{Row}
use Rattle.block.specs.Log.{sectors, joined, used}
use Rattle.sector_log.specs.LookUp.{blocks, first_of, empty_row, held, doubtful, first_doubtful}
use Rattle.sector_log.specs.Parts.{tape, Lent, beside}
use Rattle.sector_log.specs.Store.{AfterStore, compared}
use Rattle.sector_log.specs.Behind.{moved_behind, appended_behind}
use Rattle.sector_log.specs.declared.Stored.{Stored}
use Rattle.sector_log.specs.declared.Stored.TheVariants.{New, Duplicate}
use Rattle.index.specs.Index.{place_at, named, sector_at, bucket_of}
use Rattle.hint.specs.Hint.{hint}
use Rattle.known.specs.declared.Known.{Known}
use Rattle.sector_number.specs.declared.SectorNumber.{SectorNumber}

-- ---- what is learned

-- the first doubtful sector of a log, or none
unfoldable pub doubt_of : Bytes → Optional SectorNumber
doubt_of log = cond (eqb (doubtful log) 0) None (Some (record { 0 = first_doubtful log }))

-- the refusal of a block that is not found: "Else 12 if any sector is doubtful, else 11"
abbrev pub missing : Optional SectorNumber → Refusal
missing None = NotHeld
missing (Some n) = NotKnown n

-- the index leads from a block's type and score to it, or to one of them that starts before it
abbrev pub leads : Bytes → Bytes → Row → Bool
leads log index r = on (hint log index r.kind r.score) false (λ h. leb h.first r.first)

unfoldable pub all_lead : Bytes → Bytes → List Row → Bool
all_lead log index [] = true
all_lead log index (r ∷ rows) = leads log index r && all_lead log index rows

-- "whether the index has every sound block": it leads from each to the first of its type and score
abbrev pub exactly : Bytes → Bytes → Bool
exactly log index = all_lead log index (blocks log)

unfoldable pub learned : Bytes → Bytes → Bytes → Known
learned log waiting index =
    record {
      used = record { 0 = used log };
      waits = record { 0 = used waiting };
      doubt = doubt_of (tape log waiting);
      exact = exactly (tape log waiting) index;
    }

-- ---- what is done with it

-- "A doubtful sector is in the used part": the one that is told, if any is, lies before the end
abbrev pub doubt_before : Optional SectorNumber → ℕ → Bool
doubt_before None end = true
doubt_before (Some n) end = ltb n.0 end

-- what can be known of a log and a waiting part of these lengths: "one that cannot belong to these lengths is learned anew"
unfoldable pub belongs : Known → ℕ → ℕ → Bool
belongs k m w =
    leb k.used.0 (sectors m) && (leb k.waits.0 (sectors w) && doubt_before k.doubt (k.used.0 + k.waits.0))

-- both as one log, by the end that is known
abbrev pub known_log : Known → Bytes → Bytes → Bytes
known_log k log waiting = joined k.used.0 log waiting

-- what the index leads to; else nothing, where the index has every sound block, and what the scan finds, where it has not
unfoldable pub held_known : Known → Bytes → Bytes → Bytes → ℕ → Bytes → Option Row
held_known k log waiting index t s =
    cond (lawful t && same s zero_score) (some (empty_row t))
    (on (hint (known_log k log waiting) index t s) (cond k.exact none (first_of t s (blocks (known_log k log waiting)))) some)

-- a write "decides by the scan"; an index that has every sound block decides alike
unfoldable pub owner : Known → Bytes → Bytes → Bytes → ℕ → Bytes → Option Row
owner k log waiting index t s = cond k.exact (held_known k log waiting index t s) (held (known_log k log waiting) t s)

-- a block that look-up did not find is appended at the end that is known
abbrev pub appended_known : Known → Bytes → Bytes → Bytes → ℕ → Bytes → AfterStore
appended_known k = appended_behind k.used.0 k.waits.0

unfoldable pub store_known : Known → Bytes → Bytes → Bytes → Bytes → ℕ → Bytes → AfterStore
store_known k log waiting index date t d =
    on (owner k log waiting index t (sha1_of d)) (appended_known k log waiting date t d) (λ r. compared (beside log waiting) r.bytes r.first d)

-- one of k places from p on has an entry with this score, type and sector
unfoldable pub listed_from : Bytes → Bytes → ℕ → ℕ → ℕ → ℕ → Bool
listed_from index score kind first zero p = false
listed_from index score kind first (suc k) p =
    (same (take 21 (place_at index p)) (named score kind) && eqb (sector_at index p) first) || listed_from index score kind first k (suc p)

-- the bucket of the score has one
unfoldable pub listed : Bytes → Bytes → ℕ → ℕ → Bool
listed index score kind first = let b = bucket_of index score in listed_from index score kind first (b.to - b.from) b.from

-- what is known after a store of data of n sectors, with the index that it left: more waits, and the index has every block if it had them and has this one
abbrev pub after_new : Known → ℕ → Bool → Known
after_new k n there = record { used = k.used; waits = record { 0 = k.waits.0 + n }; doubt = k.doubt; exact = k.exact && there }

abbrev pub known_after : Known → Result Stored Refusal → ℕ → Bool → Known
known_after k (Ok (New at)) n there = after_new k n there
known_after k (Ok (Duplicate at)) n there = k
known_after k (Err w) n there = k

-- sync, by what is known: where the sectors that wait fit, they are moved, and the waiting part is blank
unfoldable pub can_settle_known : Known → ℕ → Bool
can_settle_known k m = leb (k.used.0 + k.waits.0) (sectors m)

unfoldable pub settled_known : Known → Bytes → Bytes → Lent
settled_known k = moved_behind k.used.0 k.waits.0

abbrev pub after_sync : Known → Known
after_sync k = record { used = record { 0 = k.used.0 + k.waits.0 }; waits = record { 0 = 0 }; doubt = k.doubt; exact = k.exact }
