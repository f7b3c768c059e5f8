-- In a directory there are only names that a step has made: so to see whether it is empty these are looked at.
use Rattle.std.proofs.Common.{◌≡◌, Bool, true, false, ◌⊎◌, inl, inr, ⊎_elim, List, [], ◌∷◌, refl, sym, ◌∙◌, ap, subst, true≢false}
use Rattle.std.specs.Prelude.{bytes_eq, None, ⊤}
use Rattle.std.proofs.lemmas.Bool.{or_parts}
use Rattle.svn_types.specs.Names.{Path}
use Rattle.svn_types.specs.Paths.{path_eq, child, last_name}
use Rattle.svn_types.proofs.NameLemmas.{Name}
use Rattle.svn_types.proofs.PathLemmas.{same_path, path_eq_from, last_name-child, path_eq-children}
use Rattle.svn_folder.specs.declared.step.Step.{Step}
use Rattle.svn_folder.specs.declared.step.Step.TheVariants.{Make, SyncFile, SyncDirectory, Rename, RenameDirectory, RemoveFile, RemoveDirectory}
use Rattle.svn_folder.specs.States.{Held, State, seen, nothing, fresh, empty}
use Rattle.svn_folder.specs.Steps.{put, after, run, new_name, IsEmpty}
use Rattle.svn_folder.specs.Memory.{IsFreeUnder, IsClear, is_made}
use Rattle.svn_folder.proofs.Showing.{put_here, put_elsewhere, sync_file-shown, sync_directory-shown, move_away, move_here, move_elsewhere}

-- nothing has this name, in any directory
abbrev IsUnused : State → Name → Type 0
IsUnused s name = (p : Path) → seen s (child p name) ≡ None

-- no step has made it
abbrev IsUnmade : List Step → Name → Type 0
IsUnmade [] name = ⊤
IsUnmade (step ∷ steps) name = (path_eq (new_name step) (name ∷ []) ≡ false) × IsUnmade steps name

module _ (name : Name) where
  -- what is put somewhere has the last name of its path
  elsewhere : (q p : Path) → path_eq (last_name q) (name ∷ []) ≡ false → path_eq q (child p name) ≡ false
  elsewhere q p other = by (path_eq q (child p name)) refl
    where
      by : (b : Bool) → path_eq q (child p name) ≡ b → b ≡ false
      by false e = refl
      by true e = absurd (true≢false (sym (path_eq_from (last_name q) (name ∷ []) (ap last_name (same_path q (child p name) e) ∙ last_name-child p name)) ∙ other))

  put_unused : (q : Path) (held : Held) (s : State) → path_eq (last_name q) (name ∷ []) ≡ false → IsUnused s name → IsUnused (put q held s) name
  put_unused q held s other unused p = put_elsewhere q (child p name) held s (elsewhere q p other) ∙ unused p

  remove_unused : (q : Path) (s : State) → IsUnused s name → IsUnused (put q nothing s) name
  remove_unused q s unused p = by (path_eq q (child p name)) refl
    where
      by : (b : Bool) → path_eq q (child p name) ≡ b → seen (put q nothing s) (child p name) ≡ None
      by true e = put_here q (child p name) nothing s e
      by false e = put_elsewhere q (child p name) nothing s e ∙ unused p

  move_unused : (m n : Name) (s : State) → bytes_eq n name ≡ false → IsUnused s name → IsUnused (after (RenameDirectory m n) s) name
  move_unused m n s other unused [] = by (bytes_eq m name) refl
    where
      by : (b : Bool) → bytes_eq m name ≡ b → seen (after (RenameDirectory m n) s) (name ∷ []) ≡ None
      by true e = move_away m n s name [] e
      by false e = move_elsewhere m n s name [] e other ∙ unused []
  move_unused m n s other unused (k ∷ p) = by (bytes_eq m k) refl (bytes_eq n k) refl
    where
      by : (a : Bool) → bytes_eq m k ≡ a → (b : Bool) → bytes_eq n k ≡ b → seen (after (RenameDirectory m n) s) (k ∷ child p name) ≡ None
      by true e b f = move_away m n s k (child p name) e
      by false e true f = move_here m n s k (child p name) e f ∙ unused (m ∷ p)
      by false e false f = move_elsewhere m n s k (child p name) e f ∙ unused (k ∷ p)

  unused_after : (step : Step) (s : State) → path_eq (new_name step) (name ∷ []) ≡ false → IsUnused s name → IsUnused (after step s) name
  unused_after (Make q e t) s other unused p = put_unused q (fresh e) s other unused p
  unused_after (SyncFile q) s other unused p = sync_file-shown q s (child p name) ∙ unused p
  unused_after (SyncDirectory q) s other unused p = sync_directory-shown q s (child p name) ∙ unused p
  unused_after (Rename q r) s other unused p = put_unused r (s q).now (put q nothing s) other (remove_unused q s unused) p
  unused_after (RenameDirectory m n) s other unused p = move_unused m n s (sym (path_eq-children [] n name) ∙ other) unused p
  unused_after (RemoveFile q) s other unused p = remove_unused q s unused p
  unused_after (RemoveDirectory q) s other unused p = remove_unused q s unused p

  unused_run : (steps : List Step) (s : State) → IsUnmade steps name → IsUnused s name → IsUnused (run s steps) name
  unused_run [] s unmade unused = unused
  unused_run (step ∷ steps) s unmade unused = unused_run steps (after step s) unmade.1 (unused_after step s unmade.0 unused)

  unused_empty : IsUnused empty name
  unused_empty [] = refl
  unused_empty (k ∷ p) = refl

  free_or_unmade : (steps : List Step) (s : State) (p : Path) → IsClear s p steps → (seen s (child p name) ≡ None) ⊎ IsUnmade steps name
  free_or_unmade [] s p clear = inr tt
  free_or_unmade (step ∷ steps) s p clear = by (path_eq (new_name step) (name ∷ [])) refl (free_or_unmade steps s p clear.1)
    where
      by : (b : Bool) → path_eq (new_name step) (name ∷ []) ≡ b → (seen s (child p name) ≡ None) ⊎ IsUnmade steps name
          → (seen s (child p name) ≡ None) ⊎ IsUnmade (step ∷ steps) name
      by true e rest = inl (subst (IsFreeUnder s p) (same_path (new_name step) (name ∷ []) e) clear.0)
      by false e rest = ⊎_elim (λ free. inl free) (λ unmade. inr (e, unmade)) rest

pub empty_if_clear : (steps : List Step) (p : Path) → IsClear (run empty steps) p steps → IsEmpty (run empty steps) p
empty_if_clear steps p clear name =
    ⊎_elim (λ free. free) (λ unmade. unused_run name steps empty unmade (unused_empty name) p) (free_or_unmade name steps (run empty steps) p clear)

free_if_empty : (s : State) (p q : Path) → IsEmpty s p → IsFreeUnder s p q
free_if_empty s p [] none = tt
free_if_empty s p (n ∷ q) none = none n

pub clear_if_empty : (steps : List Step) (s : State) (p : Path) → IsEmpty s p → IsClear s p steps
clear_if_empty [] s p none = tt
clear_if_empty (step ∷ steps) s p none = (free_if_empty s p (new_name step) none, clear_if_empty steps s p none)

unmade : (steps : List Step) (name : Name) → is_made steps name ≡ false → IsUnmade steps name
unmade [] name h = tt
unmade (step ∷ steps) name h =
    let parts = or_parts (path_eq (new_name step) (name ∷ [])) (is_made steps name) h in (parts.0, unmade steps name parts.1)

-- nothing has a name that no step has made
pub unmade_unseen : (steps : List Step) (p : Path) (name : Name) → is_made steps name ≡ false → seen (run empty steps) (child p name) ≡ None
unmade_unseen steps p name h = unused_run name steps empty (unmade steps name h) (unused_empty name) p
