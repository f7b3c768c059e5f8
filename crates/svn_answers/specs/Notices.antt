-- What is reported of working copies beside their answers.
--     of_notes word notes      what was passed over of the copy that a word names, if anything was
--     HearsAll hears notices before after      each notice was heard, with its word, in this order, where `hears` says what hearing does
use Rattle.std.specs.Prelude.{◌≡◌, ℕ, Bool, true, false, ◌&&◌, List, [], ◌∷◌, nat_eq, Option, Some, None}
use Rattle.svn_wcdb.specs.declared.notes.Notes.{Notes}
use Rattle.svn_answers.specs.declared.notices.Notice.{Notice}
use Rattle.svn_answers.specs.declared.notices.Notice.TheVariants.{PassedOver}

-- the words, each with a notice
abbrev pub Heard : Type 0 → Type 0
Heard F = List (List ℕ × Notice F)

-- nothing was passed over
abbrev pub is_nothing : Notes → Bool
is_nothing n =
    nat_eq n.changes 0 && nat_eq n.externals 0 && nat_eq n.actual 0 && nat_eq n.locks 0 && nat_eq n.work 0 && nat_eq n.locked 0

abbrev pub unless_nothing : {F : Type 0} → Bool → List ℕ → Notes → Heard F
unless_nothing true word notes = []
unless_nothing false word notes = (word, PassedOver notes) ∷ []

abbrev pub of_notes : {F : Type 0} → List ℕ → Option Notes → Heard F
of_notes word None = []
of_notes word (Some notes) = unless_nothing (is_nothing notes) word notes

abbrev pub HearsAll : {F N : Type 0} → (N → List ℕ → Notice F → N → Type 0) → Heard F → N → N → Type 0
HearsAll hears [] before after = before ≡ after
HearsAll {F} {N} hears (x ∷ notices) before after = (mid : N) × hears before x.0 x.1 mid × HearsAll hears notices mid after
