-- What the lines of an update say of its calls.
use Rattle.std.proofs.Common.{◌≡◌, ℕ, suc, zero, Bool, true, false, ◌&&◌, ◌||◌, cond, List, [], ◌∷◌, ◌++◌, refl, sym, ◌∙◌, ap, subst}
use Rattle.std.proofs.Common.{append_assoc, true≢false}
use Rattle.std.specs.Prelude.{Option, Some, None}
use Rattle.std.specs.List.{AllByRecursion, list_any}
use Rattle.std.proofs.lemmas.Bool.{or_parts, or_left, or_right}
use Rattle.svn_lists.proofs.Somewhere.{any_implied, any_still, in_whole}
use Rattle.svn_types.specs.Names.{Path}
use Rattle.svn_types.proofs.PathLemmas.{path_eq-same, path_eq_from}
use Rattle.std.proofs.lemmas.Option.{none-some, same_Some}
use Rattle.svn_types.specs.Paths.{path_eq}
use Rattle.svn_editor.specs.declared.call.Call.{Call}
use Rattle.svn_editor.specs.declared.call.Call.TheVariants.{SetTargetRevision, OpenRoot, DeleteEntry, AddDirectory, OpenDirectory}
use Rattle.svn_editor.specs.declared.call.Call.TheVariants.{ChangeDirProp, CloseDirectory, AddFile, OpenFile, ChangeFileProp, ApplyText}
use Rattle.svn_editor.specs.declared.call.Call.TheVariants.{CloseFile, CloseEdit, AbortEdit}
use Rattle.svn_editor.specs.Calls.{applies_text}
use Rattle.svn_model.specs.Nodes.{WorkingCopy}
use Rattle.svn_audit.specs.declared.lines.UpdateLine.{UpdateLine}
use Rattle.svn_audit.specs.Lines.{begins, opened, opened_path, changes_props, has_old_props, changed_line, opened_line, closed_line, line_at}
use Rattle.svn_audit.specs.Lines.{lines_after, changes, has_path, no_change_no_line, lines_have_paths_of_calls}

-- what passes among the calls of a token passes among all
opened_any : (f : Call → Bool) (calls : List Call) (t : ℕ) → list_any f (opened calls t) ≡ true → list_any f calls ≡ true
opened_any f [] t h = h
opened_any f (c ∷ calls) zero h = by (begins c) (opened_any f calls zero) h
  where
    by : (b : Bool) → (list_any f (opened calls zero) ≡ true → list_any f calls ≡ true)
        → list_any f (cond b (c ∷ calls) (opened calls zero)) ≡ true → (f c || list_any f calls) ≡ true
    by true k h = h
    by false k h = or_right (f c) (list_any f calls) (k h)
opened_any f (c ∷ calls) (suc t) h = by (begins c) (opened_any f calls t) (opened_any f calls (suc t)) h
  where
    by : (b : Bool) → (list_any f (opened calls t) ≡ true → list_any f calls ≡ true)
        → (list_any f (opened calls (suc t)) ≡ true → list_any f calls ≡ true)
        → list_any f (cond b (opened calls t) (opened calls (suc t))) ≡ true → (f c || list_any f calls) ≡ true
    by true k m h = or_right (f c) (list_any f calls) (k h)
    by false k m h = or_right (f c) (list_any f calls) (m h)

-- ---- no change, no line

false_from : (b : Bool) → (b ≡ true → ⊥) → b ≡ false
false_from true h = absurd (h refl)
false_from false h = refl

-- a kind of change that is in none of the calls, where no call changes anything
none_such : (f : Call → Bool) → ((c : Call) → f c ≡ true → changes c ≡ true) → (calls : List Call) → list_any changes calls ≡ false
    → list_any f calls ≡ false
none_such f e calls h = false_from (list_any f calls) (λ k. true≢false (sym (any_implied f changes e calls k) ∙ h))

text_changes : (t : ℕ) (c : Call) → applies_text t c ≡ true → changes c ≡ true
text_changes t (SetTargetRevision rev) h = h
text_changes t (OpenRoot base token) h = h
text_changes t (DeleteEntry path rev parent) h = refl
text_changes t (AddDirectory path parent token) h = refl
text_changes t (OpenDirectory path parent base token) h = h
text_changes t (ChangeDirProp token name value) h = refl
text_changes t (CloseDirectory token) h = h
text_changes t (AddFile path parent token) h = refl
text_changes t (OpenFile path parent base token) h = h
text_changes t (ChangeFileProp token name value) h = refl
text_changes t (ApplyText token base_md5 text) h = refl
text_changes t (CloseFile token text_md5) h = h
text_changes t CloseEdit h = h
text_changes t AbortEdit h = h

prop_changes : (t : ℕ) (c : Call) → changes_props t c ≡ true → changes c ≡ true
prop_changes t (SetTargetRevision rev) h = h
prop_changes t (OpenRoot base token) h = h
prop_changes t (DeleteEntry path rev parent) h = refl
prop_changes t (AddDirectory path parent token) h = refl
prop_changes t (OpenDirectory path parent base token) h = h
prop_changes t (ChangeDirProp token name value) h = refl
prop_changes t (CloseDirectory token) h = h
prop_changes t (AddFile path parent token) h = refl
prop_changes t (OpenFile path parent base token) h = h
prop_changes t (ChangeFileProp token name value) h = refl
prop_changes t (ApplyText token base_md5 text) h = refl
prop_changes t (CloseFile token text_md5) h = h
prop_changes t CloseEdit h = h
prop_changes t AbortEdit h = h

closed_none : (w : WorkingCopy) (t : ℕ) (since : List Call) → list_any changes since ≡ false → closed_line w t since ≡ []
closed_none w t [] h = refl
closed_none w t (c ∷ since) h =
    let rest = (or_parts (changes c) (list_any changes since) h).1 in
    ap (λ b. opened_line w (opened_path c) b (list_any (changes_props t) since) (list_any changes since))
    (none_such (applies_text t) (text_changes t) since rest)
    ∙ ap (λ b. opened_line w (opened_path c) false b (list_any changes since)) (none_such (changes_props t) (prop_changes t) since rest)
    ∙ ap (opened_line w (opened_path c) false false) rest
    ∙ none (opened_path c)
  where
    none : (o : Option Path) → opened_line w o false false false ≡ []
    none None = refl
    none (Some p) = refl

unchanged : (calls : List Call) (t : ℕ) → list_any changes calls ≡ false → list_any changes (opened calls t) ≡ false
unchanged calls t h = false_from (list_any changes (opened calls t)) (λ k. true≢false (sym (opened_any changes calls t k) ∙ h))

no_line : (w : WorkingCopy) (before : List Call) (c : Call) → list_any changes before ≡ false → changes c ≡ false → line_at w before c ≡ []
no_line w before (SetTargetRevision rev) h k = refl
no_line w before (OpenRoot base token) h k = refl
no_line w before (DeleteEntry path rev parent) h k = absurd (true≢false k)
no_line w before (AddDirectory path parent token) h k = absurd (true≢false k)
no_line w before (OpenDirectory path parent base token) h k = refl
no_line w before (ChangeDirProp token name value) h k = refl
no_line w before (CloseDirectory token) h k = closed_none w token (opened before token) (unchanged before token h)
no_line w before (AddFile path parent token) h k = absurd (true≢false k)
no_line w before (OpenFile path parent base token) h k = refl
no_line w before (ChangeFileProp token name value) h k = refl
no_line w before (ApplyText token base_md5 text) h k = refl
no_line w before (CloseFile token text_md5) h k = closed_none w token (opened before token) (unchanged before token h)
no_line w before CloseEdit h k = refl
no_line w before AbortEdit h k = refl

no_lines : (w : WorkingCopy) (before calls : List Call) → list_any changes before ≡ false → list_any changes calls ≡ false → lines_after w before calls ≡ []
no_lines w before [] h k = refl
no_lines w before (c ∷ calls) h k =
    let parts = or_parts (changes c) (list_any changes calls) k in
    ap (λ ls. ls ++ lines_after w (before ++ c ∷ []) calls) (no_line w before c h parts.0)
    ∙ no_lines w (before ++ c ∷ []) calls (any_still changes before c parts.0 ∙ h) parts.1

pub no_change_prints_nothing : no_change_no_line
no_change_prints_nothing w calls h = no_lines w [] calls refl h

-- ---- each line has the path of a call

opened_has_path : (c : Call) (p : Path) → opened_path c ≡ Some p → has_path p c ≡ true
opened_has_path (SetTargetRevision rev) p h = absurd (none-some p h)
opened_has_path (OpenRoot base token) p h = or_left (path_eq [] p) false (path_eq_from [] p (same_Some [] p h))
opened_has_path (DeleteEntry path rev parent) p h = absurd (none-some p h)
opened_has_path (AddDirectory path parent token) p h = absurd (none-some p h)
opened_has_path (OpenDirectory path parent base token) p h = or_left (path_eq path p) false (path_eq_from path p (same_Some path p h))
opened_has_path (ChangeDirProp token name value) p h = absurd (none-some p h)
opened_has_path (CloseDirectory token) p h = absurd (none-some p h)
opened_has_path (AddFile path parent token) p h = absurd (none-some p h)
opened_has_path (OpenFile path parent base token) p h = or_left (path_eq path p) false (path_eq_from path p (same_Some path p h))
opened_has_path (ChangeFileProp token name value) p h = absurd (none-some p h)
opened_has_path (ApplyText token base_md5 text) p h = absurd (none-some p h)
opened_has_path (CloseFile token text_md5) p h = absurd (none-some p h)
opened_has_path CloseEdit p h = absurd (none-some p h)
opened_has_path AbortEdit p h = absurd (none-some p h)

abbrev HavePaths : List Call → List UpdateLine → Type 0
HavePaths calls lines = AllByRecursion (λ (l : UpdateLine). list_any (has_path l.path) calls ≡ true) lines

both : (calls : List Call) (ls ms : List UpdateLine) → HavePaths calls ls → HavePaths calls ms → HavePaths calls (ls ++ ms)
both calls [] ms h k = k
both calls (l ∷ ls) ms h k = (h.0, both calls ls ms h.1 k)

at_once : (before : List Call) (c : Call) (rest : List Call) (p : Path) → has_path p c ≡ true → list_any (has_path p) (before ++ c ∷ rest) ≡ true
at_once [] c rest p h = or_left (has_path p c) (list_any (has_path p) rest) h
at_once (x ∷ before) c rest p h = or_right (has_path p x) (list_any (has_path p) (before ++ c ∷ rest)) (at_once before c rest p h)

closed_has_path : (w : WorkingCopy) (t : ℕ) (calls since : List Call) → ((p : Path) → list_any (has_path p) since ≡ true → list_any (has_path p) calls ≡ true)
    → HavePaths calls (closed_line w t since)
closed_has_path w t calls [] h = tt
closed_has_path w t calls (c ∷ since) h =
    by (opened_path c) (λ p e. h p (or_left (has_path p c) (list_any (has_path p) since) (opened_has_path c p e)))
  where
    at : (p : Path) (text props : Bool) → list_any (has_path p) calls ≡ true → HavePaths calls (changed_line p text props)
    at p true props k = (k, tt)
    at p false true k = (k, tt)
    at p false false k = tt

    by : (o : Option Path) → ((p : Path) → o ≡ Some p → list_any (has_path p) calls ≡ true)
        → HavePaths calls (opened_line w o (list_any (applies_text t) since) (list_any (changes_props t) since) (list_any changes since))
    by None k = tt
    by (Some p) k =
        at p (list_any (applies_text t) since)
        (list_any (changes_props t) since || (list_any changes since && has_old_props (w p))) (k p refl)

of_opened : (before rest : List Call) (t : ℕ) (p : Path) → list_any (has_path p) (opened before t) ≡ true
    → list_any (has_path p) (before ++ rest) ≡ true
of_opened before rest t p h = in_whole (has_path p) before rest (opened_any (has_path p) before t h)

at_has_path : (w : WorkingCopy) (before : List Call) (c : Call) (rest : List Call) → HavePaths (before ++ c ∷ rest) (line_at w before c)
at_has_path w before (SetTargetRevision rev) rest = tt
at_has_path w before (OpenRoot base token) rest = tt
at_has_path w before (DeleteEntry path rev parent) rest = (at_once before (DeleteEntry path rev parent) rest path (path_eq-same path), tt)
at_has_path w before (AddDirectory path parent token) rest =
    (at_once before (AddDirectory path parent token) rest path (or_left (path_eq path path) false (path_eq-same path)), tt)
at_has_path w before (OpenDirectory path parent base token) rest = tt
at_has_path w before (ChangeDirProp token name value) rest = tt
at_has_path w before (CloseDirectory token) rest =
    closed_has_path w token (before ++ CloseDirectory token ∷ rest) (opened before token) (of_opened before (CloseDirectory token ∷ rest) token)
at_has_path w before (AddFile path parent token) rest =
    (at_once before (AddFile path parent token) rest path (or_left (path_eq path path) false (path_eq-same path)), tt)
at_has_path w before (OpenFile path parent base token) rest = tt
at_has_path w before (ChangeFileProp token name value) rest = tt
at_has_path w before (ApplyText token base_md5 text) rest = tt
at_has_path w before (CloseFile token text_md5) rest =
    closed_has_path w token (before ++ CloseFile token text_md5 ∷ rest) (opened before token) (of_opened before (CloseFile token text_md5 ∷ rest) token)
at_has_path w before CloseEdit rest = tt
at_has_path w before AbortEdit rest = tt

all_have_paths : (w : WorkingCopy) (before calls : List Call) → HavePaths (before ++ calls) (lines_after w before calls)
all_have_paths w before [] = tt
all_have_paths w before (c ∷ calls) =
    both (before ++ c ∷ calls) (line_at w before c) (lines_after w (before ++ c ∷ []) calls) (at_has_path w before c calls)
    (subst (λ xs. HavePaths xs (lines_after w (before ++ c ∷ []) calls)) (append_assoc before (c ∷ []) calls)
    (all_have_paths w (before ++ c ∷ []) calls))

pub lines_have_paths : lines_have_paths_of_calls
lines_have_paths w calls = all_have_paths w [] calls
