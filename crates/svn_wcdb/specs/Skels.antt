-- Lists of atoms in Subversion's notation (skel.h). An atom is a word that begins with a letter and goes on up to a space or a parenthesis, or a
-- number of bytes, one space and those bytes, whatever they are. A list is atoms in parentheses, with any number of spaces around each.
--     atom_at bytes      the atom that the bytes begin with, and the bytes after it, or nothing where they begin with none
--     item_at bytes      the same after spaces
--     is_end bytes      a list ends here, and the bytes too
use Rattle.std.specs.Prelude.{ℕ, ◌+◌, Bool, false, ◌||◌, ◌&&◌, not, List, [], ◌∷◌, length, take, drop, nat_eq, nat_le, bytes_eq, Option, Some, None, if◌then◌else◌}
use Rattle.svn_types.specs.Names.{is_letter}
use Rattle.svn_wcdb.specs.declared.skel.Run.{Run}
use Rattle.svn_wcdb.specs.declared.skel.Run.TheVariants.{Spaces, Digits, Word}
use Rattle.svn_digits.specs.Numbers.{is_digit, number_of}

-- tab, line feed, form feed, carriage return or space
abbrev pub is_space : ℕ → Bool
is_space b = nat_eq b 9 || nat_eq b 10 || nat_eq b 12 || nat_eq b 13 || nat_eq b 32

-- `(`, `)`, `[` or `]`
abbrev pub is_bracket : ℕ → Bool
is_bracket b = nat_eq b 40 || nat_eq b 41 || nat_eq b 91 || nat_eq b 93

abbrev pub goes_on : Run → ℕ → Bool
goes_on Spaces b = is_space b
goes_on Digits b = is_digit b
goes_on Word b = not (is_space b || is_bracket b)

-- how many bytes of that kind come first
abbrev pub run_len : Run → List ℕ → ℕ
run_len run [] = 0
run_len run (b ∷ bs) = if goes_on run b then run_len run bs + 1 else 0

abbrev pub after_run : Run → List ℕ → List ℕ
after_run run bytes = drop (run_len run bytes) bytes

-- one space and so many bytes, and what is after them
abbrev pub sized : Option ℕ → List ℕ → Option (List ℕ × List ℕ)
sized None bytes = None
sized (Some n) [] = None
sized (Some n) (b ∷ bs) = if is_space b && nat_le n (length bs) then Some (take n bs, drop n bs) else None

abbrev pub sized_at : List ℕ → Option (List ℕ × List ℕ)
sized_at bytes = sized (number_of (take (run_len Digits bytes) bytes)) (after_run Digits bytes)

abbrev pub word_at : List ℕ → Option (List ℕ × List ℕ)
word_at bytes = Some (take (run_len Word bytes) bytes, after_run Word bytes)

abbrev pub begins_word : List ℕ → Bool
begins_word [] = false
begins_word (b ∷ bs) = is_letter b

abbrev pub atom_at : List ℕ → Option (List ℕ × List ℕ)
atom_at bytes = if begins_word bytes then word_at bytes else sized_at bytes

abbrev pub item_at : List ℕ → Option (List ℕ × List ℕ)
item_at bytes = atom_at (after_run Spaces bytes)

abbrev pub is_end : List ℕ → Bool
is_end bytes = bytes_eq (after_run Spaces bytes) (41 ∷ [])
