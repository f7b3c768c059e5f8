-- A directory gets another name once all of the folder is on the disk: a crash leaves nothing at that name, or all that was at the old one.
use Rattle.std.proofs.Common.{◌≡◌, Bool, true, false, ◌&&◌, ◌⊎◌, inl, inr, List, [], ◌∷◌, ◌++◌, refl, sym, ◌∙◌, ap, subst, true≢false, length, append-nil}
use Rattle.std.specs.Prelude.{bytes_eq, cond, None}
use Rattle.std.proofs.lemmas.Bool.{and_parts}
use Rattle.svn_types.specs.Names.{Path}
use Rattle.svn_types.specs.Paths.{child}
use Rattle.svn_types.proofs.NameLemmas.{Name}
use Rattle.svn_types.proofs.PathLemmas.{path_eq-same}
use Rattle.svn_folder.specs.declared.step.Step.{Step}
use Rattle.svn_folder.specs.declared.step.Step.TheVariants.{RenameDirectory}
use Rattle.svn_folder.specs.declared.held.Held.{Held}
use Rattle.svn_folder.specs.Entries.{has_directory}
use Rattle.svn_folder.specs.States.{Seen, Place, State, seen, vacant, with_name}
use Rattle.svn_folder.specs.Steps.{after, begun, copied, cleared, moved, is_in, is_none_older}
use Rattle.svn_folder.specs.Crashes.{MayLeave, OneMayLeave, RunMayLeave}
use Rattle.svn_folder.specs.Laws.{is_firm, is_way_below, IsOnDisk}
use Rattle.svn_folder.specs.Syncing.{IsSynced}
use Rattle.svn_folder.proofs.Firm.{stays}
use Rattle.svn_disk.specs.Laws.{IsThereUnder, a_directory_is_renamed_at_once}
use Rattle.svn_disk.proofs.Leaving.{free_on_disk}

pub same_name : (n : Name) → bytes_eq n n ≡ true
same_name n = (and_parts (bytes_eq n n) true (path_eq-same (n ∷ []))).0

-- a name that is on the disk is as it was once it is synced
firm_named : (now : Held) (older : List Held) → (is_none_older older && now.is_synced) ≡ true
    → with_name (record { now = now; older = older }) ≡ record { now = now; older = older }
firm_named now [] h = refl
firm_named now (held ∷ older) h = absurd (true≢false (sym h))

named_or_not : (b : Bool) (place : Place) → is_firm place ≡ true → cond b (with_name place) place ≡ place
named_or_not true place h = firm_named place.now place.older h
named_or_not false place h = refl

module _ (m n : Name) (s : State) where
  -- a state has at the new name what is on the disk at the old one
  pub record HasMoved (t : State) : Type 0 where
    pub root : t [] ≡ s []
    pub each : (p : Path) → is_firm (s (m ∷ p)) ≡ true → t (n ∷ p) ≡ s (m ∷ p)

  way_moved : (t : State) → HasMoved t → (above p : Path) → is_way_below s (m ∷ above) p ≡ true → is_way_below t (n ∷ above) p ≡ true
  way_moved t has above [] h = refl
  way_moved t has above (k ∷ p) h =
      let parts = and_parts (is_firm (s (m ∷ above)) && has_directory (s (m ∷ above)).now.entry) (is_way_below s (m ∷ child above k) p) h in
      let firm = (and_parts (is_firm (s (m ∷ above))) (has_directory (s (m ∷ above)).now.entry) parts.0).0 in
      let here : (is_firm (t (n ∷ above)) && has_directory (t (n ∷ above)).now.entry) ≡ true =
      ap (λ (place : Place). is_firm place && has_directory place.now.entry) (has.each above firm) ∙ parts.0 in
      ap (λ b. b && is_way_below t (n ∷ child above k) p) here ∙ way_moved t has (child above k) p parts.1

  pub on_disk_moved : (t : State) → HasMoved t → (p : Path) → IsOnDisk s (m ∷ p) → IsOnDisk t (n ∷ p)
  on_disk_moved t has p on =
      let parts = and_parts (is_firm (s []) && has_directory (s []).now.entry) (is_way_below s (m ∷ []) p) on.0 in
      let here : (is_firm (t []) && has_directory (t []).now.entry) ≡ true =
      ap (λ (place : Place). is_firm place && has_directory place.now.entry) has.root ∙ parts.0 in
      (ap (λ b. b && is_way_below t (n ∷ []) p) here ∙ way_moved t has [] p parts.1, ap is_firm (has.each p on.1) ∙ on.1)

  pub seen_moved : (t : State) → HasMoved t → (p : Path) → IsOnDisk s (m ∷ p) → seen t (n ∷ p) ≡ seen s (m ∷ p)
  seen_moved t has p on = ap (λ (place : Place). place.now.entry) (has.each p on.1)

  moved_left : (t : State) (left : Seen) → HasMoved t → MayLeave t left → IsThereUnder s m n left
  moved_left t left has may p on =
      let there = on_disk_moved t has p on in stays t (n ∷ p) left there.0 there.1 may ∙ seen_moved t has p on

  -- ---- the states of the step

  copied_at : (p : Path) → copied m n s (n ∷ p) ≡ s (m ∷ p)
  copied_at p = ap (λ b. cond b (s (m ∷ p)) (s (n ∷ p))) (same_name n)

  copied_moved : HasMoved (copied m n s)
  copied_moved = record { root = refl; each = λ p firm. copied_at p }

  module _ (synced : IsSynced s) (other : bytes_eq m n ≡ false) (free : seen s (n ∷ []) ≡ None) where
    moved_at : (p : Path) → moved m n s (n ∷ p) ≡ s (m ∷ p)
    moved_at p = ap (λ b. cond b vacant (copied m n s (n ∷ p))) other ∙ copied_at p

    moved_moved : HasMoved (moved m n s)
    moved_moved = record { root = refl; each = λ p firm. moved_at p }

    pub after_moved : HasMoved (after (RenameDirectory m n) s)
    after_moved = record {
      root = refl;
      each = λ p firm. named_or_not (is_in [] (n ∷ p) && is_none_older (moved m n s []).older) (moved m n s (n ∷ p)) (ap is_firm (moved_at p) ∙ firm) ∙ moved_at p;
    }

    cleared_at : cleared m s (n ∷ []) ≡ s (n ∷ [])
    cleared_at = ap (λ b. cond b vacant (s (n ∷ []))) other

    cleared_left : (left : Seen) → MayLeave (cleared m s) left → left (n ∷ []) ≡ None
    cleared_left left may =
        let there = free_on_disk s n synced in
        stays (cleared m s) (n ∷ []) left there.0 (ap is_firm cleared_at ∙ there.1) may ∙ ap (λ (place : Place). place.now.entry) cleared_at ∙ free

    begun_left : (left : Seen) → OneMayLeave (begun (RenameDirectory m n) s) left → (left (n ∷ []) ≡ None) ⊎ IsThereUnder s m n left
    begun_left left (inl may) = inr (moved_left (copied m n s) left copied_moved may)
    begun_left left (inr (inl may)) = inl (cleared_left left may)
    begun_left left (inr (inr (inl may))) = inr (moved_left (moved m n s) left moved_moved may)
    begun_left left (inr (inr (inr none))) = absurd none

    -- a crash at any moment of the step
    pub rename_left : (left : Seen) → RunMayLeave s (RenameDirectory m n ∷ []) left → (left (n ∷ []) ≡ None) ⊎ IsThereUnder s m n left
    rename_left left (inl may) =
        let there = free_on_disk s n synced in inl (stays s (n ∷ []) left there.0 there.1 may ∙ free)
    rename_left left (inr (inl may)) = begun_left left may
    rename_left left (inr (inr may)) = inr (moved_left (after (RenameDirectory m n) s) left after_moved may)

pub renamed_at_once : a_directory_is_renamed_at_once
renamed_at_once s m n synced other free =
    let has = after_moved m n s synced other free in (
      rename_left m n s synced other free,
      λ p on. seen_moved m n s (after (RenameDirectory m n) s) has p on,
      λ p on. on_disk_moved m n s (after (RenameDirectory m n) s) has p on,
    )
