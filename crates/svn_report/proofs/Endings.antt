-- what follows the revision in an entry's line
use Rattle.std.proofs.Common.{◌≡◌, ℕ, Bool, true, false, List, ◌∷◌, ◌++◌, refl, append-nil}
use Rattle.svn_editor.specs.Words.{spaced}
use Rattle.svn_report.specs.Lines.{ending, start_empty_words}

pub last_words : (w : List ℕ) (b : Bool) → w ++ ending b ≡ spaced (w ∷ start_empty_words b)
last_words w true = refl
last_words w false = append-nil w
