-- Entries of directories: 40 bytes, gen[4] psize[2] dsize[2] flags[1] pad[5] size[6] score[20], numbers big-endian.
use Rattle.std.specs.Prelude.{Bool, not, ◌&&◌, ◌||◌, ℕ, ◌*◌, ◌/◌, ◌%◌, ◌^◌, leb, eqb, take, drop}
use Rattle.buffer.specs.Bytes.{Bytes, zeros}
use Rattle.digits.specs.Number.{be_number}
use Rattle.kind.specs.Kind.{longest}
use Rattle.entry.specs.declared.Entry.{Entry}

abbrev pub entry_length : ℕ
entry_length = 40

-- the number of w bytes at an offset
abbrev pub field : ℕ → ℕ → Bytes → ℕ
field at w b = be_number (take w (drop at b))

abbrev pub flags_of : Bytes → ℕ
flags_of b = field 8 1 b

abbrev pub score_of : Bytes → Bytes
score_of b = take 20 (drop 20 b)

-- the five bytes of the pad
abbrev pub pad_of : Bytes → Bytes
pad_of b = take 5 (drop 9 b)

-- "Flag bit 0 is active, bit 1 directory, bits 2 to 4 depth, bit 5 local"; plain: "bits 5 to 7 are clear"; clean: "all zeros", of the pad
unfoldable pub entry_of : Bytes → Entry
entry_of b =
    record {
      active = eqb (flags_of b % 2) 1;
      directory = eqb (flags_of b / 2 % 2) 1;
      depth = flags_of b / 4 % 8;
      plain = eqb (flags_of b / 32 % 8) 0;
      clean = zeros (pad_of b);
      psize = field 4 2 b;
      dsize = field 6 2 b;
      size = field 14 6 b;
    }

-- "p being psize over 20 rounded down": how many scores a pointer block has
abbrev pub pointers : Entry → ℕ
pointers e = e.psize / 20

-- "well-formed when psize is 40 to 57,344, dsize 1 to 57,344 (a multiple of 40 for a directory), bits 5 to 7 are clear,
-- and size is at most dsize times p to the power depth"; "The same holds for the five pad bytes of an active entry: 16"
unfoldable pub well_formed : Entry → Bool
well_formed e =
    (leb 40 e.psize && leb e.psize longest)
    && ((leb 1 e.dsize && leb e.dsize longest)
    && ((not e.directory || eqb (e.dsize % entry_length) 0)
    && (e.plain && (e.clean && leb e.size (e.dsize * pointers e ^ e.depth)))))

-- whether 40 bytes are a well-formed entry, if it is active
abbrev pub entry_allowed : Bytes → Bool
entry_allowed b = well_formed (entry_of b)
