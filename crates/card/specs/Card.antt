-- Cards: "lines, perhaps none, of antigen=present or antigen=absent, line feed at the end".
use Rattle.std.specs.Prelude.{Bool, true, false, cond, ◌&&◌, List, [], ◌∷◌, ◌++◌, ℕ, zero, suc, eqb, length, take, drop}
use Rattle.std.proofs.Math.Option.{Option, none, some}
use Rattle.bedrock.specs.Choice.{on}
use Rattle.buffer.specs.Bytes.{Bytes, same}
use Rattle.kleene.specs.declared.Value.{Value}
use Rattle.kleene.specs.declared.Value.TheVariants.{Yes, No, NotKnown}
use Rattle.antigen.specs.Name.{is_name, before}

-- a line: an antigen's name, and whether it is present or absent
pub record Line : Type 0 where
  pub name : Bytes
  pub present : Bool

abbrev pub line : Bytes → Bool → Line
line n p = record { name = n; present = p }

-- ---- the text of lines

-- "=present" or "=absent", and the line feed
abbrev pub ending : Bool → Bytes
ending true = 0x3D ∷ 0x70 ∷ 0x72 ∷ 0x65 ∷ 0x73 ∷ 0x65 ∷ 0x6E ∷ 0x74 ∷ 0x0A ∷ []
ending false = 0x3D ∷ 0x61 ∷ 0x62 ∷ 0x73 ∷ 0x65 ∷ 0x6E ∷ 0x74 ∷ 0x0A ∷ []

abbrev pub line_text : Line → Bytes
line_text l = l.name ++ ending l.present

unfoldable pub text : List Line → Bytes
text [] = []
text (l ∷ ls) = line_text l ++ text ls

-- names, each behind that of the line before, here n; the empty n before the first line is before every name
unfoldable pub good_from : Bytes → List Line → Bool
good_from n [] = true
good_from n (l ∷ ls) = is_name l.name && (before n l.name && good_from l.name ls)

abbrev pub good : List Line → Bool
good ls = good_from [] ls

-- ---- the lines of bytes

-- the bytes before the first that is c
unfoldable pub up_to : ℕ → Bytes → Bytes
up_to c [] = []
up_to c (b ∷ s) = cond (eqb b c) [] (b ∷ up_to c s)

-- before the first "="
abbrev pub up_to_equals : Bytes → Bytes
up_to_equals s = up_to 0x3D s

-- p stands at the front of s
abbrev pub begins : Bytes → Bytes → Bool
begins s p = same (take (length p) s) p

-- the line of the name n before the bytes s
unfoldable pub line_with : Bytes → Bytes → Option Line
line_with n s =
    cond (begins s (ending true)) (some (line n true))
    (cond (begins s (ending false)) (some (line n false)) none)

-- the line at the front of bytes: whatever stands before the first "=", then an ending
abbrev pub line_of : Bytes → Option Line
line_of s = line_with (up_to_equals s) (drop (length (up_to_equals s)) s)

-- the lines at the front of bytes, at most k of them
unfoldable pub lines_at : ℕ → Bytes → List Line
lines_at zero s = []
lines_at (suc k) s = on (line_of s) [] (λ l. l ∷ lines_at k (drop (length (line_text l)) s))

-- all of them: no more than there are bytes
unfoldable pub front_lines : Bytes → List Line
front_lines s = lines_at (length s) s

-- the bytes are the text of the lines at their front, and these are good
unfoldable pub well_formed : Bytes → Bool
well_formed s = same (text (front_lines s)) s && good (front_lines s)

-- the lines of a card; none where the bytes are not one
abbrev pub lines_of : Bytes → Option (List Line)
lines_of s = cond (well_formed s) (some (front_lines s)) none

-- ---- what a card says

abbrev pub told : Bool → Value
told true = Yes
told false = No

-- "an antigen with no line is not known"
unfoldable pub say : List Line → Bytes → Value
say [] n = NotKnown
say (l ∷ ls) n = cond (same l.name n) (told l.present) (say ls n)

-- what bytes say of a name. Of bytes that are no card it is what the lines at their front say: nobody asks these
unfoldable pub value_in : Bytes → Bytes → Value
value_in s n = say (front_lines s) n
