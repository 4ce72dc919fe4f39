-- Block types, the turning of the enumeration into them, and the zero score.
use Rattle.std.specs.Prelude.{Bool, cond, Result, Ok, Err, ◌&&◌, ◌||◌, [], ℕ, ◌+◌, ◌-◌, leb, eqb}
use Rattle.buffer.specs.Bytes.{Bytes}
unfoldable pub use Rattle.sha1_digest.specs.Sha1.{sha1_of}
use Rattle.refusal.specs.declared.Refusal.{Refusal}
use Rattle.refusal.specs.declared.Refusal.TheVariants.{BlockType}

-- "Block types on the wire: root 1, directory 2, pointers of level 1 to 7 are 3 to 9, data 13": one of the ten
unfoldable pub lawful : ℕ → Bool
lawful t = (leb 1 t && leb t 9) || eqb t 13

-- "pointers of level 1 to 7 are 3 to 9": the types whose blocks are scores
unfoldable pub is_pointer : ℕ → Bool
is_pointer t = leb 3 t && leb t 9

-- "size is 1 to 57,344": the longest block
abbrev pub longest : ℕ
longest = 57344

-- "the zero score (SHA-1 of no bytes)"
unfoldable pub zero_score : Bytes
zero_score = sha1_of []

-- "The enumeration turns into these: 0 to 13; 1..7 to 3..9; 8 to 2; 9..15 to 3..9; 16 to 1; anything else is refused with 9"
unfoldable pub wire_type : ℕ → Result ℕ Refusal
wire_type e =
    cond (eqb e 0) (Ok 13)
    (cond (leb e 7) (Ok (e + 2))
    (cond (eqb e 8) (Ok 2)
    (cond (leb e 15) (Ok (e - 6))
    (cond (eqb e 16) (Ok 1) (Err BlockType)))))
