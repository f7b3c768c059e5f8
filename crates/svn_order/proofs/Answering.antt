-- The tests of an order check are those of the calls before.
use Rattle.std.proofs.Common.{◌≡◌, ℕ, false, ◌&&◌, ◌||◌, not, List, [], ◌∷◌, length, refl, sym, ◌∙◌, ap, arith}
use Rattle.std.specs.Prelude.{Option, Some, None, is_some, slice_get, nat_eq}
use Rattle.std.specs.List.{list_any}
use Rattle.std.proofs.lemmas.Bool.Decides.{nat_tests}
use Rattle.std.specs.Option.{option_map}
use Rattle.std.proofs.lemmas.Bool.{not-false}
use Rattle.svn_lists.proofs.Options.{cond_some_or, cond_some_or_then}
use Rattle.svn_types.specs.declared.kind.Kind.{Kind}
use Rattle.svn_types.specs.declared.kind.Kind.TheVariants.{Directory}
use Rattle.svn_types.specs.Names.{Path}
use Rattle.svn_types.specs.Paths.{parent}
use Rattle.svn_editor.specs.declared.call.Call.{Call}
use Rattle.svn_editor.specs.declared.call.Call.TheVariants.{SetTargetRevision, OpenRoot, DeleteEntry, AddDirectory, OpenDirectory}
use Rattle.svn_editor.specs.declared.call.Call.TheVariants.{ChangeDirProp, CloseDirectory, AddFile, OpenFile, ChangeFileProp, ApplyText}
use Rattle.svn_editor.specs.declared.call.Call.TheVariants.{CloseFile, CloseEdit, AbortEdit}
use Rattle.svn_order.specs.declared.order.OrderCheck.{OrderCheck}
use Rattle.svn_order.specs.declared.order.Stage.{Stage}
use Rattle.svn_editor.specs.Calls.{Given, number_eq, given_by, named_by, entry_of, opens_entry, all_given, given, innermost, current_file}
use Rattle.svn_editor.specs.Calls.{is_current, has_its_text, a_directory_is_open}
use Rattle.svn_editor.specs.Order.{is_target_late, is_token_unknown, is_unknown, is_token_closed, is_named_closed, is_misnumbered}
use Rattle.svn_editor.specs.Order.{is_path_wrong, is_outside, is_elsewhere, is_file_unfinished, is_too_early, is_not_innermost}
use Rattle.svn_editor.specs.Order.{is_open_below, is_prop_late, is_delete_late, is_entry_again, is_text_again, is_root_unclosed}
use Rattle.svn_editor.specs.Order.{fault_in_order}
use Rattle.svn_order.specs.Directories.{is_deleted_in}
use Rattle.svn_order.specs.Tokens.{is_unclosed_file}
use Rattle.svn_order.specs.OrderState.{target_late, unknown_in, closed_in, misnumbered_in, outside_in, current_text, elsewhere, none_open}
use Rattle.svn_order.specs.OrderState.{too_early, not_innermost, open_below, prop_late, delete_late, entry_again, text_again, root_unclosed}
use Rattle.svn_order.specs.OrderState.{fault_in}
use Rattle.svn_order.specs.StandsAfter.{stage_after, Holds}
use Rattle.svn_order.proofs.Sound.{IsSound, IsKnown, entry_named, known_open}
use Rattle.svn_order.proofs.Looking.{kind_at, closed_at, text_at, innermost_at, none_open_at, open_below_at, holds_entry_at, IsParent}
use Rattle.svn_order.proofs.Looking.{parent_of, opened_at, deleted_at, late_at, files_at}

-- ---- of what the call names

target_same : (s : OrderCheck) (calls : List Call) (c : Call) → Holds s calls → target_late s.stage c ≡ is_target_late calls c
target_same s calls c h = ap (λ (x : Stage). target_late x c) h.stage ∙ by calls c
  where
    by : (calls : List Call) (c : Call) → target_late (stage_after calls) c ≡ is_target_late calls c
    by [] (SetTargetRevision rev) = refl
    by [] _ = refl
    by (x ∷ calls) (SetTargetRevision rev) = refl
    by (x ∷ calls) _ = refl

unknown_same : (s : OrderCheck) (calls : List Call) (n : Option (ℕ × Kind)) → Holds s calls
    → unknown_in s.tokens.items n ≡ is_unknown calls n
unknown_same s calls None h = refl
unknown_same s calls (Some n) h = ap not (kind_at s calls n.0 n.1 h)

closed_same : (s : OrderCheck) (calls : List Call) (n : Option (ℕ × Kind)) → Holds s calls → IsSound calls
    → closed_in s.tokens.items n ≡ is_named_closed calls n
closed_same s calls None h sound = refl
closed_same s calls (Some n) h sound = closed_at s calls n.0 h sound

misnumbered_same : (s : OrderCheck) (calls : List Call) (g : Option Given) → Holds s calls
    → misnumbered_in s.tokens.items (option_map (λ x. x.token) g) ≡ is_misnumbered calls g
misnumbered_same s calls None h = refl
misnumbered_same s calls (Some g) h = ap (λ n. not (nat_eq g.token n)) h.count

-- the token that the call names was given to a node of the kind, and is open
abbrev IsNamedOpen : List Call → Call → Type 0
IsNamedOpen calls c = (is_token_unknown calls c ≡ false) × (is_token_closed calls c ≡ false)

open_named : (calls : List Call) (c : Call) (m : ℕ) (k : Kind) → IsNamedOpen calls c → named_by c ≡ Some (m, k) → IsKnown calls m k
open_named calls c m k o h = known_open calls m k (sym (ap (is_unknown calls) h) ∙ o.0) (sym (ap (is_named_closed calls) h) ∙ o.1)

path_same : (s : OrderCheck) (calls : List Call) (c : Call) → Holds s calls → IsSound calls → IsNamedOpen calls c
    → outside_in s.directories.items (named_by c) (entry_of c) ≡ is_path_wrong calls c
path_same s calls c h sound o = by (entry_of c) refl
  where
    none : (n : Option (ℕ × Kind)) → outside_in s.directories.items n None ≡ is_outside calls n None
    none None = refl
    none (Some n) = refl

    by : (q : Option Path) → entry_of c ≡ q
        → outside_in s.directories.items (named_by c) (entry_of c) ≡ is_outside calls (named_by c) (entry_of c)
    by None e = ap (outside_in s.directories.items (named_by c)) e ∙ none (named_by c) ∙ ap (is_outside calls (named_by c)) (sym e)
    by (Some q) e =
        let m = entry_named c q e in
        ap (outside_in s.directories.items (named_by c)) e ∙ ap (λ n. outside_in s.directories.items n (Some q)) m.1
        ∙ holds_entry_at s calls m.0 q h sound (open_named calls c m.0 Directory o m.1)
        ∙ ap (λ n. is_outside calls n (Some q)) (sym m.1) ∙ ap (is_outside calls (named_by c)) (sym e)

-- ---- of what is open

elsewhere_same : (calls : List Call) (c : Call) → elsewhere (current_file calls) c ≡ is_elsewhere calls c
elsewhere_same calls (ChangeFileProp token name value) = refl
elsewhere_same calls (ApplyText token base_md5 text) = refl
elsewhere_same calls (CloseFile token text_md5) = refl
elsewhere_same calls CloseEdit = refl
elsewhere_same calls AbortEdit = refl
elsewhere_same calls _ = refl

unfinished_same : (s : OrderCheck) (calls : List Call) (c : Call) → Holds s calls → IsSound calls
    → (current_text s.tokens.items s.current && elsewhere s.current c) ≡ is_file_unfinished calls c
unfinished_same s calls c h sound =
    ap (λ o. current_text s.tokens.items o && elsewhere o c) h.current
    ∙ ap (λ b. b && elsewhere (current_file calls) c) (by (current_file calls))
    ∙ ap (λ b. has_its_text calls (current_file calls) && b) (elsewhere_same calls c)
  where
    by : (o : Option ℕ) → current_text s.tokens.items o ≡ has_its_text calls o
    by None = refl
    by (Some t) = text_at s calls t h sound

early_same : (s : OrderCheck) (calls : List Call) (c : Call) → Holds s calls → too_early s c ≡ is_too_early calls c
early_same s calls (ApplyText token base_md5 text) h =
    ap (λ o. not (number_eq o (Some token)) && not (none_open s.directories.items)) h.current
    ∙ ap (λ b. not (is_current calls token) && b) (none_open_at s calls h)
early_same s calls (CloseFile token text_md5) h =
    ap (λ o. not (number_eq o (Some token)) && not (none_open s.directories.items)) h.current
    ∙ ap (λ b. not (is_current calls token) && b) (none_open_at s calls h)
early_same s calls _ h = refl

innermost_same : (s : OrderCheck) (calls : List Call) (c : Call) → Holds s calls
    → not_innermost s.directories.items c ≡ is_not_innermost calls c
innermost_same s calls (AddDirectory path parent token) h = ap (λ o. not (number_eq o (Some parent))) (innermost_at s calls h)
innermost_same s calls (OpenDirectory path parent base token) h = ap (λ o. not (number_eq o (Some parent))) (innermost_at s calls h)
innermost_same s calls _ h = refl

below_same : (s : OrderCheck) (calls : List Call) (c : Call) → Holds s calls → IsSound calls → IsNamedOpen calls c
    → open_below s.directories.items c ≡ is_open_below calls c
below_same s calls (CloseDirectory token) h sound o =
    open_below_at s calls token h sound (open_named calls (CloseDirectory token) token Directory o refl)
below_same s calls _ h sound o = refl

prop_same : (s : OrderCheck) (calls : List Call) (c : Call) → Holds s calls → IsSound calls → IsNamedOpen calls c
    → is_not_innermost calls c ≡ false → prop_late s c ≡ is_prop_late calls c
prop_same s calls (ChangeDirProp token name value) h sound o i =
    open_below_at s calls token h sound (open_named calls (ChangeDirProp token name value) token Directory o refl)
prop_same s calls (ChangeFileProp token name value) h sound o i = ap (λ x. not (number_eq x (Some token))) h.current
prop_same s calls (AddDirectory path parent token) h sound o i =
    late_at s calls parent h sound (open_named calls (AddDirectory path parent token) parent Directory o refl)
    (not-false (number_eq (innermost calls) (Some parent)) i)
prop_same s calls (OpenDirectory path parent base token) h sound o i =
    late_at s calls parent h sound (open_named calls (OpenDirectory path parent base token) parent Directory o refl)
    (not-false (number_eq (innermost calls) (Some parent)) i)
prop_same s calls _ h sound o i = refl

-- ---- of what was done before

in_parent : (s : OrderCheck) (calls : List Call) (c : Call) (m : ℕ) (q : Path) → Holds s calls → IsSound calls → IsNamedOpen calls c
    → is_path_wrong calls c ≡ false → named_by c ≡ Some (m, Directory) → entry_of c ≡ Some q → IsParent s calls m q
in_parent s calls c m q h sound o w n e =
    parent_of s calls m q h sound (open_named calls c m Directory o n)
    (sym (ap (λ x. is_outside calls x (entry_of c)) n ∙ ap (is_outside calls (Some (m, Directory))) e) ∙ w)

delete_same : (s : OrderCheck) (calls : List Call) (c : Call) → Holds s calls → IsSound calls → IsNamedOpen calls c
    → is_path_wrong calls c ≡ false → delete_late s.directories.items c ≡ is_delete_late calls c
delete_same s calls (DeleteEntry path rev parent) h sound o w =
    opened_at s calls parent path h (in_parent s calls (DeleteEntry path rev parent) parent path h sound o w refl refl)
delete_same s calls _ h sound o w = refl

again_same : (s : OrderCheck) (calls : List Call) (c : Call) → Holds s calls → IsSound calls → IsNamedOpen calls c
    → is_path_wrong calls c ≡ false → entry_again s c ≡ is_entry_again calls c
again_same s calls (OpenRoot base token) h sound o w = ap (λ n. not (nat_eq n 0)) h.count ∙ sym sound.root
again_same s calls (DeleteEntry path rev parent) h sound o w =
    deleted_at s calls parent path h (in_parent s calls (DeleteEntry path rev parent) parent path h sound o w refl refl)
again_same s calls (AddDirectory path parent token) h sound o w =
    opened_at s calls parent path h (in_parent s calls (AddDirectory path parent token) parent path h sound o w refl refl)
again_same s calls (AddFile path parent token) h sound o w =
    opened_at s calls parent path h (in_parent s calls (AddFile path parent token) parent path h sound o w refl refl)
again_same s calls (OpenDirectory path parent base token) h sound o w =
    let p = in_parent s calls (OpenDirectory path parent base token) parent path h sound o w refl refl in
    ap (λ b. b || is_deleted_in s.directories.items path) (opened_at s calls parent path h p)
    ∙ ap (λ b. list_any (opens_entry path) calls || b) (deleted_at s calls parent path h p)
again_same s calls (OpenFile path parent base token) h sound o w =
    let p = in_parent s calls (OpenFile path parent base token) parent path h sound o w refl refl in
    ap (λ b. b || is_deleted_in s.directories.items path) (opened_at s calls parent path h p)
    ∙ ap (λ b. list_any (opens_entry path) calls || b) (deleted_at s calls parent path h p)
again_same s calls _ h sound o w = refl

text_same : (s : OrderCheck) (calls : List Call) (c : Call) → Holds s calls → IsSound calls
    → text_again s.tokens.items c ≡ is_text_again calls c
text_same s calls (ApplyText token base_md5 text) h sound = text_at s calls token h sound
text_same s calls _ h sound = refl

root_same : (s : OrderCheck) (calls : List Call) (c : Call) → Holds s calls → IsSound calls → root_unclosed s c ≡ is_root_unclosed calls c
root_same s calls CloseEdit h sound =
    ap (λ n. nat_eq n 0 || not (none_open s.directories.items) || list_any is_unclosed_file s.tokens.items) h.count
    ∙ ap (λ b. b || not (none_open s.directories.items) || list_any is_unclosed_file s.tokens.items) (first (all_given calls))
    ∙ ap (λ b. not (is_some (given calls 0)) || b || list_any is_unclosed_file s.tokens.items) (none_open_at s calls h)
    ∙ ap (λ b. not (is_some (given calls 0)) || a_directory_is_open calls || b) (files_at s calls h sound)
  where
    first : (gs : List Given) → nat_eq (length gs) 0 ≡ not (is_some (slice_get gs 0))
    first [] = refl
    first (g ∷ gs) = grind (arith, nat_tests)
root_same s calls _ h sound = refl

-- ---- in their order

pub in_order : (s : OrderCheck) (calls : List Call) (c : Call) → Holds s calls → IsSound calls → fault_in s c ≡ fault_in_order calls c
in_order s calls c h sound =
    cond_some_or_then _ _ _ _ _ _ (target_same s calls c h)
    (λ e0. cond_some_or_then _ _ _ _ _ _ (unknown_same s calls (named_by c) h)
    (λ e1. cond_some_or_then _ _ _ _ _ _ (closed_same s calls (named_by c) h sound)
    (λ e2. cond_some_or_then _ _ _ _ _ _ (misnumbered_same s calls (given_by c) h)
    (λ e3. cond_some_or_then _ _ _ _ _ _ (path_same s calls c h sound (e1, e2))
    (λ e4. cond_some_or_then _ _ _ _ _ _ (unfinished_same s calls c h sound)
    (λ e5. cond_some_or_then _ _ _ _ _ _ (early_same s calls c h)
    (λ e6. cond_some_or_then _ _ _ _ _ _ (innermost_same s calls c h)
    (λ e7. cond_some_or_then _ _ _ _ _ _ (below_same s calls c h sound (e1, e2))
    (λ e8. cond_some_or_then _ _ _ _ _ _ (prop_same s calls c h sound (e1, e2) e7)
    (λ e9. cond_some_or _ _ _ _ _ (delete_same s calls c h sound (e1, e2) e4)
    (λ e10. cond_some_or _ _ _ _ _ (again_same s calls c h sound (e1, e2) e4)
    (λ e11. cond_some_or _ _ _ _ _ (text_same s calls c h sound)
    (λ e12. cond_some_or _ _ _ _ _ (root_same s calls c h sound) (λ e13. refl))))))))))))))
