-- Steps that are apart from a path leave what is there, and a crash during them leaves what is on the disk there.
use Rattle.std.proofs.Common.{◌≡◌, Bool, true, false, ◌&&◌, ◌⊎◌, inl, inr, not, List, [], ◌∷◌, ◌++◌, refl, sym, ◌∙◌, ap, true≢false, append_assoc, append-nil}
use Rattle.std.specs.Prelude.{cond, bytes_eq}
use Rattle.std.proofs.lemmas.Bool.{and_parts, not-true}
use Rattle.svn_types.specs.Names.{Path}
use Rattle.svn_types.specs.Paths.{path_eq, is_within, child}
use Rattle.svn_types.proofs.NameLemmas.{Name}
use Rattle.svn_types.proofs.PathLemmas.{within_append, is_within-chain, apart_paths}
use Rattle.svn_folder.specs.declared.step.Step.{Step}
use Rattle.svn_folder.specs.declared.step.Step.TheVariants.{Make, SyncFile, SyncDirectory, Rename, RenameDirectory, RemoveFile, RemoveDirectory}
use Rattle.svn_folder.specs.Entries.{has_directory}
use Rattle.svn_folder.specs.States.{Seen, Held, Place, State, seen, nothing, fresh, with_bytes, with_name, vacant}
use Rattle.svn_folder.specs.Steps.{put, sync_directory, is_none_older, is_in, copied, cleared, moved, after, begun, run}
use Rattle.svn_folder.specs.Crashes.{MayLeave, OneMayLeave, RunMayLeave}
use Rattle.svn_folder.specs.Laws.{is_firm, is_way_below, is_apart, AreApart, IsOnDisk}
use Rattle.svn_folder.proofs.Showing.{put_elsewhere, put_off, sync_file-shown, sync_directory-shown, rename_elsewhere, move_root, move_elsewhere}
use Rattle.svn_folder.proofs.Firm.{stays}

-- ---- what is shown

-- a path that isn't within another is none that has something put at that other one
off : (q p : Path) → not (is_within q p) ≡ true → path_eq q p ≡ false
off q p h = apart_paths q p (not-true (is_within q p) h)

-- the same of the first names
off_top : (m k : Name) (p : Path) → not (is_within (m ∷ []) (k ∷ p)) ≡ true → bytes_eq m k ≡ false
off_top m k p h = by (bytes_eq m k) refl
  where
    by : (b : Bool) → bytes_eq m k ≡ b → b ≡ false
    by false e = refl
    by true e = absurd (true≢false (sym h ∙ ap (λ b. not (b && true)) e))

move_apart : (m n : Name) (s : State) (p : Path) → is_apart (RenameDirectory m n) p ≡ true → seen (after (RenameDirectory m n) s) p ≡ seen s p
move_apart m n s [] h = move_root m n s
move_apart m n s (k ∷ p) h =
    let parts = and_parts (not (is_within (m ∷ []) (k ∷ p))) (not (is_within (n ∷ []) (k ∷ p))) h in
    move_elsewhere m n s k p (off_top m k p parts.0) (off_top n k p parts.1)

after_apart : (step : Step) (s : State) (p : Path) → is_apart step p ≡ true → seen (after step s) p ≡ seen s p
after_apart (Make q e t) s p h = put_elsewhere q p (fresh e) s (off q p h)
after_apart (SyncFile q) s p h = sync_file-shown q s p
after_apart (SyncDirectory q) s p h = sync_directory-shown q s p
after_apart (Rename q r) s p h =
    let parts = and_parts (not (is_within q p)) (not (is_within r p)) h in rename_elsewhere q r p s (off r p parts.1) (off q p parts.0)
after_apart (RenameDirectory m n) s p h = move_apart m n s p h
after_apart (RemoveFile q) s p h = put_elsewhere q p nothing s (off q p h)
after_apart (RemoveDirectory q) s p h = put_elsewhere q p nothing s (off q p h)

pub run_apart : (s : State) (steps : List Step) (p : Path) → AreApart steps p → seen (run s steps) p ≡ seen s p
run_apart s [] p h = refl
run_apart s (step ∷ steps) p h = run_apart (after step s) steps p h.1 ∙ after_apart step s p h.0

-- ---- what is apart from a path is apart from what is above it

above_off : (q r u : Path) → not (is_within q (r ++ u)) ≡ true → not (is_within q r) ≡ true
above_off q r u h = by (is_within q r) refl
  where
    by : (b : Bool) → is_within q r ≡ b → not b ≡ true
    by false e = refl
    by true e = absurd (true≢false (sym h ∙ ap not (is_within-chain q r (r ++ u) e (within_append r u))))

above_both : (q x r u : Path) → (not (is_within q (r ++ u)) && not (is_within x (r ++ u))) ≡ true → (not (is_within q r) && not (is_within x r)) ≡ true
above_both q x r u h =
    let parts = and_parts (not (is_within q (r ++ u))) (not (is_within x (r ++ u))) h in
    ap (λ b. b && not (is_within x r)) (above_off q r u parts.0) ∙ above_off x r u parts.1

apart_above : (step : Step) (r u : Path) → is_apart step (r ++ u) ≡ true → is_apart step r ≡ true
apart_above (Make q e t) r u h = above_off q r u h
apart_above (SyncFile q) r u h = refl
apart_above (SyncDirectory q) r u h = refl
apart_above (Rename q x) r u h = above_both q x r u h
apart_above (RenameDirectory m n) r u h = above_both (m ∷ []) (n ∷ []) r u h
apart_above (RemoveFile q) r u h = above_off q r u h
apart_above (RemoveDirectory q) r u h = above_off q r u h

-- ---- what is on the disk

-- a sync changes nothing there
named_firm : (now : Held) (older : List Held) → (is_none_older older && now.is_synced) ≡ true
    → with_name (record { now = now; older = older }) ≡ record { now = now; older = older }
named_firm now [] h = refl
named_firm now (held ∷ older) h = absurd (true≢false (sym h))

name_firm : (place : Place) → is_firm place ≡ true → with_name place ≡ place
name_firm place h = named_firm place.now place.older h

byte_firm : (place : Place) → is_firm place ≡ true → with_bytes place ≡ place
byte_firm place h =
    ap (λ b. record { now = record { entry = place.now.entry; is_synced = b }; older = place.older }) (sym (and_parts (is_none_older place.older) place.now.is_synced h).1)

same_either : (b : Bool) (x y : Place) → x ≡ y → cond b x y ≡ y
same_either true x y h = h
same_either false x y h = refl

-- a state has what is on the disk in another, where a path leads
abbrev KeepsFirm : State → State → Path → Type 0
KeepsFirm s t p = is_firm (s p) ≡ true → t p ≡ s p

sync_keeps : (d : Path) (s : State) (p : Path) → KeepsFirm s (sync_directory d s) p
sync_keeps d s p h = same_either (is_in d p && is_none_older (s d).older) (with_name (s p)) (s p) (name_firm (s p) h)

-- the directories that a rename moves are elsewhere
module _ (m n : Name) (s : State) where
  copied_keeps : (p : Path) → is_apart (RenameDirectory m n) p ≡ true → copied m n s p ≡ s p
  copied_keeps [] h = refl
  copied_keeps (k ∷ p) h =
      ap (λ b. cond b (s (m ∷ p)) (s (k ∷ p)))
      (off_top n k p (and_parts (not (is_within (m ∷ []) (k ∷ p))) (not (is_within (n ∷ []) (k ∷ p))) h).1)

  cleared_keeps : (t : State) (p : Path) → is_apart (RenameDirectory m n) p ≡ true → cleared m t p ≡ t p
  cleared_keeps t [] h = refl
  cleared_keeps t (k ∷ p) h =
      ap (λ b. cond b vacant (t (k ∷ p))) (off_top m k p (and_parts (not (is_within (m ∷ []) (k ∷ p))) (not (is_within (n ∷ []) (k ∷ p))) h).0)

  moved_keeps : (p : Path) → is_apart (RenameDirectory m n) p ≡ true → moved m n s p ≡ s p
  moved_keeps p h = cleared_keeps (copied m n s) p h ∙ copied_keeps p h

  move_keeps : (p : Path) → is_apart (RenameDirectory m n) p ≡ true → KeepsFirm s (after (RenameDirectory m n) s) p
  move_keeps p h firm =
      let same = moved_keeps p h in
      sync_keeps [] (moved m n s) p (ap is_firm same ∙ firm) ∙ same

after_keeps : (step : Step) (s : State) (p : Path) → is_apart step p ≡ true → KeepsFirm s (after step s) p
after_keeps (Make q e t) s p h firm = put_off q p (fresh e) s (off q p h)
after_keeps (SyncFile q) s p h firm = same_either (path_eq q p) (with_bytes (s p)) (s p) (byte_firm (s p) firm)
after_keeps (SyncDirectory q) s p h firm = sync_keeps q s p firm
after_keeps (Rename q r) s p h firm =
    let parts = and_parts (not (is_within q p)) (not (is_within r p)) h in
    put_off r p (s q).now (put q nothing s) (off r p parts.1) ∙ put_off q p nothing s (off q p parts.0)
after_keeps (RenameDirectory m n) s p h firm = move_keeps m n s p h firm
after_keeps (RemoveFile q) s p h firm = put_off q p nothing s (off q p h)
after_keeps (RemoveDirectory q) s p h firm = put_off q p nothing s (off q p h)

-- ---- the way to it

-- the way is on the disk in a state that has what is on the disk above a path
way_kept : (s t : State) (above p : Path) → ((r u : Path) → r ++ u ≡ above ++ p → KeepsFirm s t r) → is_way_below s above p ≡ true
    → is_way_below t above p ≡ true
way_kept s t above [] keeps h = refl
way_kept s t above (n ∷ p) keeps h =
    let parts = and_parts (is_firm (s above) && has_directory (s above).now.entry) (is_way_below s (child above n) p) h in
    let firm = (and_parts (is_firm (s above)) (has_directory (s above).now.entry) parts.0).0 in
    let here : (is_firm (t above) && has_directory (t above).now.entry) ≡ true =
    ap (λ (place : Place). is_firm place && has_directory place.now.entry) (keeps above (n ∷ p) refl firm) ∙ parts.0 in
    let rest : is_way_below t (child above n) p ≡ true =
    way_kept s t (child above n) p (λ r u e. keeps r u (e ∙ append_assoc above (n ∷ []) p)) parts.1 in
    ap (λ b. b && is_way_below t (child above n) p) here ∙ rest

on_disk_kept : (s t : State) (p : Path) → ((r u : Path) → r ++ u ≡ p → KeepsFirm s t r) → IsOnDisk s p → IsOnDisk t p
on_disk_kept s t p keeps on =
    (way_kept s t [] p keeps on.0, ap is_firm (keeps p [] (append-nil p) on.1) ∙ on.1)

-- the step is apart from each directory above as well
above_keeps : (step : Step) (s : State) (p r u : Path) → is_apart step p ≡ true → r ++ u ≡ p → KeepsFirm s (after step s) r
above_keeps step s p r u h e = after_keeps step s r (apart_above step r u (ap (is_apart step) e ∙ h))

after_on_disk : (step : Step) (s : State) (p : Path) → is_apart step p ≡ true → IsOnDisk s p → IsOnDisk (after step s) p
after_on_disk step s p h on = on_disk_kept s (after step s) p (λ r u e. above_keeps step s p r u h e) on

-- ---- crashes

-- a crash in a state that has all of that leaves what is there
left_kept : (s t : State) (p : Path) (left : Seen) → ((r u : Path) → r ++ u ≡ p → KeepsFirm s t r) → IsOnDisk s p → MayLeave t left → left p ≡ seen s p
left_kept s t p left keeps on may =
    let there = on_disk_kept s t p keeps on in
    stays t p left there.0 there.1 may ∙ ap (λ (place : Place). place.now.entry) (keeps p [] (append-nil p) on.1)

module _ (m n : Name) (s : State) (p : Path) (left : Seen) (h : is_apart (RenameDirectory m n) p ≡ true) (on : IsOnDisk s p) where
  apart_at : (r u : Path) → r ++ u ≡ p → is_apart (RenameDirectory m n) r ≡ true
  apart_at r u e = apart_above (RenameDirectory m n) r u (ap (is_apart (RenameDirectory m n)) e ∙ h)

  move_left : (MayLeave (copied m n s) left ⊎ (MayLeave (cleared m s) left ⊎ (MayLeave (moved m n s) left ⊎ ⊥))) → left p ≡ seen s p
  move_left (inl may) = left_kept s (copied m n s) p left (λ r u e firm. copied_keeps m n s r (apart_at r u e)) on may
  move_left (inr (inl may)) = left_kept s (cleared m s) p left (λ r u e firm. cleared_keeps m n s s r (apart_at r u e)) on may
  move_left (inr (inr (inl may))) = left_kept s (moved m n s) p left (λ r u e firm. moved_keeps m n s r (apart_at r u e)) on may
  move_left (inr (inr (inr none))) = absurd none

begun_left : (step : Step) (s : State) (p : Path) (left : Seen) → is_apart step p ≡ true → IsOnDisk s p → OneMayLeave (begun step s) left → left p ≡ seen s p
begun_left (Make q e t) s p left h on none = absurd none
begun_left (SyncFile q) s p left h on none = absurd none
begun_left (SyncDirectory q) s p left h on none = absurd none
begun_left (Rename q r) s p left h on none = absurd none
begun_left (RenameDirectory m n) s p left h on may = move_left m n s p left h on may
begun_left (RemoveFile q) s p left h on none = absurd none
begun_left (RemoveDirectory q) s p left h on none = absurd none

run_left : (s : State) (steps : List Step) (p : Path) (left : Seen) → IsOnDisk s p → AreApart steps p → RunMayLeave s steps left → left p ≡ seen s p
run_left s [] p left on h may = stays s p left on.0 on.1 may
run_left s (step ∷ steps) p left on h (inl may) = stays s p left on.0 on.1 may
run_left s (step ∷ steps) p left on h (inr (inl may)) = begun_left step s p left h.0 on may
run_left s (step ∷ steps) p left on h (inr (inr may)) =
    run_left (after step s) steps p left (after_on_disk step s p h.0 on) h.1 may ∙ after_apart step s p h.0

run_on_disk : (s : State) (steps : List Step) (p : Path) → IsOnDisk s p → AreApart steps p → IsOnDisk (run s steps) p
run_on_disk s [] p on h = on
run_on_disk s (step ∷ steps) p on h = run_on_disk (after step s) steps p (after_on_disk step s p h.0 on) h.1

pub meanwhile : (s : State) (steps : List Step) (p : Path) → IsOnDisk s p → AreApart steps p
    → ((left : Seen) → RunMayLeave s steps left → left p ≡ seen s p) × IsOnDisk (run s steps) p
meanwhile s steps p on h = (λ left may. run_left s steps p left on h may, run_on_disk s steps p on h)
