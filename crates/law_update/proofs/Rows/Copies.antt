-- Which nodes make a working copy, and which copies are true.
use Rattle.std.proofs.Common.{◌≡◌, ◌≢◌, [], ◌∷◌, refl, sym, subst, true≢false}
use Rattle.std.specs.Prelude.{Some, None}
use Rattle.std.specs.declared.cmp.Ordering.TheVariants.{Less, Equal}
use Rattle.std.specs.Map.{keys_of}
use Rattle.std.proofs.lemmas.Bool.{le-ltb}
use Rattle.std.proofs.lemmas.Map.Keys.{sorted_head}
use Rattle.svn_types.specs.Names.{path_cmp}
use Rattle.svn_types.specs.declared.kind.Kind.TheVariants.{File, Directory}
use Rattle.svn_repo.specs.Readings.{entries_of, kind_of, text_of}
use Rattle.svn_model.specs.declared.base_node.BaseNode.TheVariants.{NotPresent}
use Rattle.svn_model.specs.Nodes.{get_in, InPathOrder, IsWorkingCopy, HasEntries, IsTrueAt}
use Rattle.law_update.proofs.Rows.Setting.{a, b, f, g, deep, abc, at, at2, whole, partial, plain}
use Rattle.svn_model.specs.Truth.{first_untrue}
use Rattle.law_update.proofs.Rows.Plain.{k}

-- ---- the shape

no_root : IsWorkingCopy (get_in []) → ⊥
no_root c = true≢false (sym c.root)

file_as_root : IsWorkingCopy (get_in (([], plain 1 [] a) ∷ [])) → ⊥
file_as_root c = true≢false (sym c.root)

root_twice : InPathOrder (([], whole 1 []) ∷ ([], whole 1 []) ∷ []) → ⊥
root_twice order = apart (sorted_head path_cmp [] ([] ∷ []) order).0
  where
    apart : Equal ≡ Less → ⊥
    apart q = cc

no_parent : IsWorkingCopy (get_in (([], whole 1 []) ∷ (at2 a b, whole 1 (at2 a b)) ∷ [])) → ⊥
no_parent c = true≢false (sym (c.parents (at a) b some))
  where
    some : Some (whole 1 (at2 a b)) ≢ None
    some q = cc

-- a repository path of 65 names
too_deep : IsWorkingCopy (get_in (([], whole 1 []) ∷ (at f, plain 1 (deep 65) a) ∷ [])) → ⊥
too_deep c = true≢false (le-ltb 64 65 (c.repos_paths (at f) refl))

-- ---- truth, of the repository with a file whose text changes

-- the root alone, complete: the file has no entry
entry_missing : IsTrueAt k (get_in (([], whole 1 []) ∷ [])) [] → ⊥
entry_missing t =
    (subst (λ n. HasEntries (get_in (([], whole 1 []) ∷ [])) [] (keys_of (entries_of k n))) (sym (inside t.1)) (t.2.has_entries refl)).0
    refl
  where
    inside : Some 1 ≡ Some t.0 → 1 ≡ t.0
    inside q = cc

-- incomplete it needs none
incomplete_root : IsTrueAt k (get_in (([], partial 1 []) ∷ [])) []
incomplete_root =
    (1, refl, record { kind = refl; same_props = λ e. absurd (true≢false (sym e)); has_entries = λ e. absurd (true≢false (sym e)) })

-- and an entry that isn't present is one
not_present_entry : IsTrueAt k (get_in (([], whole 1 []) ∷ (at f, NotPresent) ∷ [])) []
not_present_entry = (1, refl, record { kind = refl; same_props = λ e. refl; has_entries = λ e. (some, tt) })
  where
    some : Some NotPresent ≢ None
    some q = cc

-- an entry that the node hasn't is no fault
more_entries : IsTrueAt k (get_in (([], whole 1 []) ∷ (at f, plain 1 (at f) a) ∷ (at g, NotPresent) ∷ [])) []
more_entries = (1, refl, record { kind = refl; same_props = λ e. refl; has_entries = λ e. (some, tt) })
  where
    some : Some (plain 1 (at f) a) ≢ None
    some q = cc

true_file : IsTrueAt k (get_in (([], whole 1 []) ∷ (at f, plain 1 (at f) a) ∷ [])) (at f)
true_file = (2, refl, record { kind = refl; same_text = refl; same_props = refl })

-- another text, another kind, a revision that isn't there
other_text : IsTrueAt k (get_in (([], whole 1 []) ∷ (at f, plain 1 (at f) abc) ∷ [])) (at f) → ⊥
other_text t = apart (subst (λ n. abc ≡ text_of k n) (sym (inside t.1)) t.2.same_text)
  where
    inside : Some 2 ≡ Some t.0 → 2 ≡ t.0
    inside q = cc

    apart : abc ≡ a → ⊥
    apart q = cc

other_kind : IsTrueAt k (get_in (([], whole 1 []) ∷ (at f, whole 1 (at f)) ∷ [])) (at f) → ⊥
other_kind t = apart (subst (λ n. kind_of k n ≡ Directory) (sym (inside t.1)) t.2.kind)
  where
    inside : Some 2 ≡ Some t.0 → 2 ≡ t.0
    inside q = cc

    apart : File ≡ Directory → ⊥
    apart q = cc

no_such_revision : IsTrueAt k (get_in (([], whole 1 []) ∷ (at f, plain 3 (at f) a) ∷ [])) (at f) → ⊥
no_such_revision t = none t.1
  where
    none : None ≡ Some t.0 → ⊥
    none q = cc

-- the first path that isn't true; a missing entry is reported at the directory
true_copy : first_untrue k (([], whole 1 []) ∷ (at f, plain 1 (at f) a) ∷ []) ≡ None
true_copy = refl

text_told : first_untrue k (([], whole 1 []) ∷ (at f, plain 1 (at f) abc) ∷ []) ≡ Some (at f)
text_told = refl

kind_told : first_untrue k (([], whole 1 []) ∷ (at f, whole 1 (at f)) ∷ []) ≡ Some (at f)
kind_told = refl

missing_entry_told : first_untrue k (([], whole 1 []) ∷ []) ≡ Some []
missing_entry_told = refl

incomplete_passes : first_untrue k (([], partial 1 []) ∷ []) ≡ None
incomplete_passes = refl

absent_entry_passes : first_untrue k (([], whole 1 []) ∷ (at f, NotPresent) ∷ []) ≡ None
absent_entry_passes = refl
