-- The grammar from the other side: what is well-formed is exactly what encoding makes, and of one list of characters only.
use Rattle.std.specs.Prelude.{◌≡◌, true, List, ℕ}
use Rattle.buffer.specs.Bytes.{Bytes}
use Rattle.utf8.specs.Grammar.{well_formed_text}
use Rattle.utf8.specs.Encoding.{scalars, encode, decode}

pub record Pinned : Type 0 where
  -- the encoding of scalar values other than 0 is accepted, and decodes to them
  pub accepted : (cs : List ℕ) → scalars cs ≡ true → well_formed_text (encode cs) ≡ true
  pub decoded : (cs : List ℕ) → scalars cs ≡ true → decode (encode cs) ≡ cs
  -- whatever is accepted is the encoding of scalar values other than 0: those that it decodes to
  pub encoded : (s : Bytes) → well_formed_text s ≡ true → (scalars (decode s) ≡ true) × (encode (decode s) ≡ s)
  -- and of no others
  pub one : (cs ds : List ℕ) → scalars cs ≡ true → scalars ds ≡ true → encode cs ≡ encode ds → cs ≡ ds
