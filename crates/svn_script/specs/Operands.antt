-- The words after the name of a command, by their number and form.
--     only_word, two_words, three_words      the words, where there are exactly that many
--     only_path, path_or_root      a path, where there is just one word, or none
--     late_of words      whether the last word `late` is there, and no other
--     ending_of words      a cancel number and the last word `late`, where they are there
use Rattle.std.specs.Prelude.{ℕ, Bool, true, false, ◌&&◌, List, [], ◌∷◌, bytes_eq, codes}
use Rattle.std.specs.Prelude.{Option, Some, None, option_map, option_and_then, if◌then◌else◌}
use Rattle.svn_types.specs.Names.{Path}
use Rattle.svn_digits.specs.Numbers.{number_of}
use Rattle.svn_script.specs.Reading.{path_of}

abbrev pub no_words : List (List ℕ) → Bool
no_words [] = true
no_words (w ∷ ws) = false

abbrev pub only_word : List (List ℕ) → Option (List ℕ)
only_word (w ∷ []) = Some w
only_word _ = None

abbrev pub two_words : List (List ℕ) → Option (List ℕ × List ℕ)
two_words (v ∷ w ∷ []) = Some (v, w)
two_words _ = None

abbrev pub three_words : List (List ℕ) → Option (List ℕ × List ℕ × List ℕ)
three_words (u ∷ v ∷ w ∷ []) = Some (u, v, w)
three_words _ = None

abbrev pub only_path : List (List ℕ) → Option Path
only_path words = option_and_then path_of (only_word words)

-- a path, or no word at all: the root
abbrev pub path_or_root : List (List ℕ) → Option Path
path_or_root words = if no_words words then Some [] else only_path words

-- ---- the words that may end a command

abbrev pub is_late : List ℕ → Bool
is_late word = bytes_eq word (codes "late")

-- the word `late`, and none after it
abbrev pub late_of : List (List ℕ) → Option Bool
late_of [] = Some false
late_of (w ∷ ws) = if is_late w && no_words ws then Some true else None

-- a cancel number, and then the word `late`, where they are there
abbrev pub ending_of : List (List ℕ) → Option (Option ℕ × Bool)
ending_of [] = Some (None, false)
ending_of (w ∷ ws) =
    if is_late w then (if no_words ws then Some (None, true) else None)
    else option_and_then (λ n. option_map (λ late. (Some n, late)) (late_of ws)) (number_of w)
