-- Lists of calls that are in order, and one more.
use Rattle.std.proofs.Common.{◌≡◌, ◌≤◌, not, List, [], ◌∷◌, ◌++◌, length, refl, sym, ◌∙◌, ap, subst}
use Rattle.std.specs.Prelude.{Some, None, slice_get, nat_eq}
use Rattle.std.proofs.lemmas.List.{append-nil, append_assoc}
use Rattle.std.proofs.lemmas.Bool.{not-false}
use Rattle.svn_lists.proofs.Somewhere.{any_still}
use Rattle.svn_types.specs.Paths.{child}
use Rattle.svn_editor.specs.declared.call.Call.{Call}
use Rattle.svn_editor.specs.declared.call.Call.TheVariants.{OpenRoot, AddDirectory, OpenDirectory, CloseDirectory, AddFile, OpenFile}
use Rattle.svn_editor.specs.declared.call.Call.TheVariants.{CloseFile, AbortEdit}
use Rattle.svn_editor.specs.Calls.{Given, number_eq, opens_entry, all_given, innermost}
use Rattle.svn_editor.specs.Order.{order_fault, IsLawfulAfter, IsLawful}
use Rattle.svn_order.specs.StandsAfter.{open_directories}
use Rattle.svn_editor.proofs.OneMore.{given_none}
use Rattle.svn_editor.proofs.Accepted.{IsAccepted, accepted}
use Rattle.svn_editor.proofs.Nested.{IsNested, nested_front}
use Rattle.svn_order.proofs.Sound.{IsSound, names, touches, numbered_more, named_more, entries_more, root_more}
use Rattle.svn_order.proofs.OpenDirectories.{open_still, open_given, nested_in, nested_root, open_closed, open_file_closed}

nested_after : (calls : List Call) (c : Call) → IsSound calls → IsAccepted calls c → IsNested 0 0 None (open_directories (calls ++ c ∷ []))
nested_after calls (OpenRoot base token) s a =
    subst (IsNested 0 0 None) (sym (open_given calls (OpenRoot base token) _ s a refl)) (nested_root calls _ s a.entry refl refl refl)
nested_after calls (AddDirectory path parent token) s a =
    subst (IsNested 0 0 None) (sym (open_given calls (AddDirectory path parent token) _ s a refl))
    (nested_in calls (AddDirectory path parent token) _ parent s a refl refl refl refl refl
    (not-false (number_eq (innermost calls) (Some parent)) a.innermost))
nested_after calls (OpenDirectory path parent base token) s a =
    subst (IsNested 0 0 None) (sym (open_given calls (OpenDirectory path parent base token) _ s a refl))
    (nested_in calls (OpenDirectory path parent base token) _ parent s a refl refl refl refl refl
    (not-false (number_eq (innermost calls) (Some parent)) a.innermost))
nested_after calls (AddFile path parent token) s a =
    subst (IsNested 0 0 None) (sym (open_given calls (AddFile path parent token) _ s a refl)) s.nested
nested_after calls (OpenFile path parent base token) s a =
    subst (IsNested 0 0 None) (sym (open_given calls (OpenFile path parent base token) _ s a refl)) s.nested
nested_after calls (CloseDirectory token) s a =
    let r = open_closed calls token s a in
    nested_front (open_directories (calls ++ CloseDirectory token ∷ [])) 0 0 None r.closed (subst (IsNested 0 0 None) r.before s.nested)
nested_after calls (CloseFile token text_md5) s a = subst (IsNested 0 0 None) (sym (open_file_closed calls token text_md5 s a)) s.nested
nested_after calls c s a = subst (IsNested 0 0 None) (sym (open_still calls c refl (λ t. refl))) s.nested

sound_accepted : (calls : List Call) (c : Call) → IsSound calls → IsAccepted calls c → IsSound (calls ++ c ∷ [])
sound_accepted calls c s a = record {
  numbered = numbered_more calls c s a;
  named_given = named_more calls c s a;
  entries_in = entries_more calls c s a;
  root = root_more calls c s a;
  nested = nested_after calls c s a;
}

-- giving up changes nothing
sound_abort : (calls : List Call) → IsSound calls → IsSound (calls ++ AbortEdit ∷ [])
sound_abort calls s = record {
  numbered = λ t g h. s.numbered t g (ap (λ gs. slice_get gs t) (sym same) ∙ h);
  named_given = λ t h. any_still (names t) calls AbortEdit refl ∙ s.named_given t (subst (λ (gs : List Given). length gs ≤ t) same h);
  entries_in =
      λ p n h. any_still (touches (child p n)) calls AbortEdit refl
      ∙ s.entries_in p n (sym (any_still (opens_entry p) calls AbortEdit refl) ∙ h);
  root = any_still (opens_entry []) calls AbortEdit refl ∙ s.root ∙ ap (λ (gs : List Given). not (nat_eq (length gs) 0)) (sym same);
  nested = subst (IsNested 0 0 None) (sym (open_still calls AbortEdit refl (λ t. refl))) s.nested;
}
  where
    same : all_given (calls ++ AbortEdit ∷ []) ≡ all_given calls
    same = given_none calls AbortEdit refl

sound_more : (calls : List Call) (c : Call) → IsSound calls → order_fault calls c ≡ None → IsSound (calls ++ c ∷ [])
sound_more calls AbortEdit s h = sound_abort calls s
sound_more calls c s h = sound_accepted calls c s (accepted calls c refl h)

sound_none : IsSound []
sound_none = record {
  numbered = λ t g h. absurd (none g h);
  named_given = λ t h. refl;
  entries_in = λ p n h. refl;
  root = refl;
  nested = tt;
}
  where
    none : (g : Given) → None ≡ Some g → ⊥
    none g e = cc

sound_after : (earlier calls : List Call) → IsSound earlier → IsLawfulAfter earlier calls → IsSound (earlier ++ calls)
sound_after earlier [] s h = subst IsSound (sym (append-nil earlier)) s
sound_after earlier (c ∷ calls) s h =
    subst IsSound (append_assoc earlier (c ∷ []) calls) (sound_after (earlier ++ c ∷ []) calls (sound_more earlier c s h.0) h.1)

pub sound : (calls : List Call) → IsLawful calls → IsSound calls
sound calls h = sound_after [] calls sound_none h

lawful_after : (earlier calls : List Call) (c : Call) → IsLawfulAfter earlier calls → order_fault (earlier ++ calls) c ≡ None
    → IsLawfulAfter earlier (calls ++ c ∷ [])
lawful_after earlier [] c h n = (ap (λ (xs : List Call). order_fault xs c) (sym (append-nil earlier)) ∙ n, tt)
lawful_after earlier (d ∷ calls) c h n = (
  h.0,
  lawful_after (earlier ++ d ∷ []) calls c h.1 (ap (λ (xs : List Call). order_fault xs c) (append_assoc earlier (d ∷ []) calls) ∙ n),
)

pub lawful_more : (calls : List Call) (c : Call) → IsLawful calls → order_fault calls c ≡ None → IsLawful (calls ++ c ∷ [])
lawful_more calls c h n = lawful_after [] calls c h n
