-- Notices one after another.
use Rattle.std.proofs.Common.{◌≡◌, ℕ, Bool, true, false, ◌||◌, true≢false, List, [], ◌∷◌, ◌++◌, Option, Some, None, Result, Ok, Err, append_assoc, refl, sym, subst, ◌∙◌}
use Rattle.std.specs.Prelude.{IfSome, OnOk, codes, option_map}
use Rattle.std.specs.Result.{is_err}
use Rattle.std.specs.Fmt.{◌++?◌}
use Rattle.std.specs.Io.KnownBytes.{Appends}
use Rattle.std.proofs.KnownBytes.{Appends-nil, Appends-trans}
use Rattle.svn_disk_audit.specs.FaultTexts.{TextOf}
use Rattle.svn_answers.specs.declared.fault.TellFault.{TellFault}
use Rattle.svn_answers.specs.Lines.{source_text}
use Rattle.svn_answers.specs.NoticeLines.{WritesText, fault_line, notice_line, notice_lines}
use Rattle.svn_answers.specs.declared.notices.Notice.{Notice}
use Rattle.svn_answers.specs.Notices.{Heard, HearsAll}

pub hears_both : {F N : Type 0} (hears : N → List ℕ → Notice F → N → Type 0) (xs ys : Heard F) (a b c : N) → HearsAll hears xs a b
    → HearsAll hears ys b c → HearsAll hears (xs ++ ys) a c
hears_both {F} {N} hears [] ys a b c first rest = subst (λ (x : N). HearsAll hears ys x c) (sym first) rest
hears_both hears (x ∷ xs) ys a b c first rest = (first.0, first.1, hears_both hears xs ys first.0 b c first.2 rest)

-- what is so where a line was written is so where none failed
pub written_or_failed : {E : Type 0} (P : Type 0) (before now : Bool) (r : Result (Unit {0}) E) → OnOk r P → now ≡ (before || is_err r) → now ≡ false
    → (before ≡ false) × P
written_or_failed P true now r holds is none = absurd (true≢false (sym is ∙ none))
written_or_failed P false now (Ok x) holds is none = (refl, holds)
written_or_failed P false now (Err e) holds is none = absurd (true≢false (sym is ∙ none))

-- hearers that write a line of each notice, or know that one couldn't be written
module _ {F N C : Type 0} (copies_of : N → C) (failed : N → Bool) (contents : N → Option (List ℕ)) (lacks : C → F → Bool)
    (text : TextOf (TellFault F)) where
  abbrev pub WritesLine : N → List ℕ → Notice F → N → Type 0
  WritesLine a word notice b =
      (copies_of b ≡ copies_of a) × WritesText (failed a) (contents a) (failed b) (contents b) (notice_line (lacks (copies_of a)) text word notice)

  appended : (a m b x y : Option (List ℕ)) → IfSome x (Appends a m) → IfSome y (Appends m b) → IfSome (x ++? y) (Appends a b)
  appended a m b None y h k = tt
  appended a m b (Some x) None h k = tt
  appended a m b (Some x) (Some y) h k = Appends-trans a m b x y h k

  -- of notices one after another all lines are written
  pub all_written : (heard : Heard F) (a b : N) → HearsAll WritesLine heard a b
      → WritesText (failed a) (contents a) (failed b) (contents b) (notice_lines (lacks (copies_of a)) text heard)
  all_written [] a b same =
      subst (λ (x : N). WritesText (failed a) (contents a) (failed x) (contents x) (Some [])) same (λ fine. (fine, Appends-nil (contents a)))
  all_written (x ∷ heard) a b h = λ fine.
      let mid = h.0 in
      let rest = all_written heard mid b h.2 fine in
      let one = h.1.1 rest.0 in (
        one.0,
        appended (contents a) (contents mid) (contents b) (notice_line (lacks (copies_of a)) text x.0 x.1)
            (notice_lines (lacks (copies_of a)) text heard) one.1
            (subst (λ (c : C). IfSome (notice_lines (lacks c) text heard) (Appends (contents mid) (contents b))) h.1.0 rest.1),
      )

-- the pieces of a fault's line, where its text is known
pub line_known : (word : List ℕ) (o a b : Option (List ℕ))
    → IfSome (Some (codes "svnaudit: ") ++? (Some (source_text word) ++? (Some (codes ": ") ++? (o ++? Some (10 ∷ []))))) (Appends a b)
    → IfSome (option_map (fault_line word) o) (Appends a b)
line_known word None a b h = tt
line_known word (Some t) a b h =
    let name : List ℕ = codes "svnaudit: " ++ source_text word in
    subst (Appends a b)
    (sym
    (append_assoc (name ++ codes ": ") t (10 ∷ []) ∙ append_assoc name (codes ": ") (t ++ 10 ∷ [])
    ∙ append_assoc (codes "svnaudit: ") (source_text word) (codes ": " ++ (t ++ 10 ∷ []))))
    h
