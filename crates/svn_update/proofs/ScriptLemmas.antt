-- Lines that are done one after the other.
use Rattle.std.proofs.Common.{◌≡◌, ℕ, ◌<◌, Bool, List, [], ◌∷◌, ◌++◌, length, append_assoc, refl, ap, sym, subst, ◌∙◌, arith, nat_eq}
use Rattle.std.proofs.Common.{Some}
use Rattle.std.specs.List.{slice_split}
use Rattle.std.proofs.lemmas.List.{append-nil}
use Rattle.std.proofs.lemmas.List.Splits.{length-slice_split}
use Rattle.svn_script.specs.declared.command_line.Settings.{Settings}
use Rattle.svn_repo.specs.declared.change.Change.{Change}
use Rattle.svn_script.specs.declared.command.Command.TheVariants as command
use Rattle.svn_script.specs.Reading.{lines_of, without_return, without_returns}
use Rattle.svn_script.specs.Commands.{command_of}
use Rattle.svn_update.specs.declared.answer.Refusal.TheVariants.{Memory as ListMemory}
use Rattle.svn_update.specs.declared.answer.Answer.TheVariants.{Silent, Refused}
use Rattle.svn_update.specs.Answers.{answer_text}
use Rattle.svn_update.specs.ScriptStates.{ScriptState}
use Rattle.svn_update.specs.Scripts.{DoesLine, DoesLines, PrintsFrom}

-- ---- a change that is kept

pub keeps_change : (s : Settings) (line : List ℕ) (change : Change) (old new : ScriptState)
    → command_of line ≡ Some (command.Change change) → new ≡ record old { pending = old.pending ++ change ∷ [] } → DoesLine s line old new []
keeps_change s line change old new read kept = (command.Change change, read, Silent, kept, refl)

pub has_no_memory : (s : Settings) (line : List ℕ) (change : Change) (old new : ScriptState)
    → command_of line ≡ Some (command.Change change) → new ≡ old → DoesLine s line old new (answer_text new.copy (Refused ListMemory))
has_no_memory s line change old new read kept = (command.Change change, read, Refused ListMemory, kept, refl)

-- ---- one more line

pub one_more_line : (s : Settings) (before : List (List ℕ)) (line : List ℕ) (old mid new : ScriptState) (front back : List ℕ)
    → DoesLines s before old mid front → DoesLine s line mid new back → DoesLines s (before ++ line ∷ []) old new (front ++ back)
one_more_line s [] line old mid new front back h d = (
  new,
  back,
  [],
  subst (λ (t : ScriptState). DoesLine s line t new back) h.0 d,
  (refl, refl),
  ap (λ (t : List ℕ). t ++ back) h.1 ∙ sym (append-nil back),
)
one_more_line s (x ∷ before) line old mid new front back h d = (
  h.0,
  h.1,
  h.2 ++ back,
  h.3,
  one_more_line s before line h.0 mid new h.2 back h.4 d,
  ap (λ (t : List ℕ). t ++ back) h.5 ∙ append_assoc h.1 h.2 back,
)

-- ---- the lines of what is left

not_last : (l : List ℕ) (ls : List (List ℕ)) → 0 < length ls → without_returns (l ∷ ls) ≡ without_return l ∷ without_returns ls
not_last l [] h = absurd (omega (arith, h))
not_last l (m ∷ ls) h = refl

pub next_line : (rest line after : List ℕ) → slice_split (λ b. nat_eq b 10) rest ≡ line ∷ slice_split (λ b. nat_eq b 10) after
    → lines_of rest ≡ without_return line ∷ lines_of after
next_line rest line after e =
    let p : ℕ → Bool = λ b. nat_eq b 10 in
    let some : 0 < length (slice_split p after) = omega (arith, length-slice_split p after) in
    ap without_returns e ∙ not_last line (slice_split p after) some

-- ---- the end

pub script_ends : (s : Settings) (script : List ℕ) (before : List (List ℕ)) (rest : List ℕ) (begin mid end : ScriptState) (front back : List ℕ)
    → lines_of script ≡ before ++ lines_of rest → slice_split (λ b. nat_eq b 10) rest ≡ rest ∷ [] → DoesLines s before begin mid front
    → DoesLine s rest mid end back → PrintsFrom s begin script (front ++ back)
script_ends s script before rest begin mid end front back lines last h d =
    let all : before ++ rest ∷ [] ≡ lines_of script = sym (lines ∙ ap (λ (ls : List (List ℕ)). before ++ ls) (ap without_returns last)) in (
      end,
      subst (λ (ls : List (List ℕ)). DoesLines s ls begin end (front ++ back)) all
          (one_more_line s before rest begin mid end front back h d),
    )
