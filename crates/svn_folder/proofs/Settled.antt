-- Once all of a folder is on the disk a crash leaves what it shows.
use Rattle.std.proofs.Common.{◌≡◌, Bool, true, false, ◌&&◌, [], ◌∷◌, ◌++◌, refl, sym, ◌∙◌, ap, true≢false, append_assoc, append-nil}
use Rattle.std.specs.Prelude.{cond, None, is_some, ⊤}
use Rattle.svn_types.specs.Names.{Path}
use Rattle.svn_types.specs.Paths.{parent, child}
use Rattle.svn_types.proofs.NameLemmas.{Name}
use Rattle.svn_types.proofs.PathLemmas.{parent-child}
use Rattle.svn_folder.specs.Entries.{has_directory}
use Rattle.svn_folder.specs.States.{Seen, State, seen, empty}
use Rattle.svn_folder.specs.Steps.{is_none_older}
use Rattle.svn_folder.specs.Crashes.{MayLeave, shown_below}
use Rattle.svn_folder.specs.Laws.{is_firm, is_way_below, IsOnDisk}
use Rattle.svn_folder.specs.Syncing.{IsSynced, no_marks}
use Rattle.svn_folder.proofs.Firm.{firm_left}
use Rattle.svn_folder.proofs.Marked.{directory_some, root_named, none_inside}

module _ (s : State) (on : IsSynced s) where
  firm_root : is_firm (s []) ≡ true
  firm_root = ap (λ b. b && (s []).now.is_synced) (root_named no_marks s on) ∙ on.bytes []

  firm_child : (q : Path) (name : Name) → has_directory (seen s q) ≡ true → is_firm (s (child q name)) ≡ true
  firm_child q name h =
      ap (λ b. b && (s (child q name)).now.is_synced) (on.names (child q name) (ap (λ (r : Path). has_directory (seen s r)) (parent-child q name) ∙ h))
      ∙ on.bytes (child q name)

  -- nothing is below what is no directory
  none_below : (above : Path) (name : Name) (p : Path) → has_directory (seen s above) ≡ false → seen s (above ++ name ∷ p) ≡ None
  none_below above name [] other = none_inside no_marks s on above name other
  none_below above name (k ∷ p) other =
      ap (seen s) (sym (append_assoc above (name ∷ []) (k ∷ p)))
      ∙ none_below (child above name) k p (ap has_directory (none_inside no_marks s on above name other))

  -- ---- a crash

  module _ (left : Seen) (may : MayLeave s left) where
    names_child : (q : Path) (name : Name) → has_directory (seen s q) ≡ true → may.names (child q name) ≡ seen s (child q name)
    names_child q name h = firm_left (s (child q name)) (may.names (child q name)) (firm_child q name h) (may.each (child q name))

    shown_is : (above p : Path) → may.names above ≡ seen s above → shown_below may.names above p ≡ seen s (above ++ p)
    shown_is above [] same = same ∙ ap (seen s) (sym (append-nil above))
    shown_is above (n ∷ p) same = ap (λ b. cond b (shown_below may.names (child above n) p) None) (ap has_directory same)
        ∙ by (has_directory (seen s above)) refl (λ e. shown_is (child above n) p (names_child above n e))
      where
        by : (b : Bool) → has_directory (seen s above) ≡ b
            → (has_directory (seen s above) ≡ true → shown_below may.names (child above n) p ≡ seen s (child above n ++ p))
            → cond b (shown_below may.names (child above n) p) None ≡ seen s (above ++ n ∷ p)
        by true e rest = rest e ∙ ap (seen s) (append_assoc above (n ∷ []) p)
        by false e rest = sym (none_below above n p e)

    pub left_is_shown : (p : Path) → left p ≡ seen s p
    left_is_shown p = may.is_shown p ∙ shown_is [] p (firm_left (s []) (may.names []) firm_root (may.each []))

  -- ---- the way to it

  directory_above : (above : Path) (name : Name) (p : Path) → is_some (seen s (above ++ name ∷ p)) ≡ true → has_directory (seen s above) ≡ true
  directory_above above name p h = by (has_directory (seen s above)) refl
    where
      by : (b : Bool) → has_directory (seen s above) ≡ b → b ≡ true
      by true e = refl
      by false e = absurd (true≢false (sym h ∙ ap is_some (none_below above name p e)))

  -- a path is that of the first directory, or is in a directory
  abbrev IsInDirectory : Path → Path → Type 0
  IsInDirectory above [] = ⊤
  IsInDirectory above (n ∷ p) = has_directory (seen s (above ++ parent (n ∷ p))) ≡ true

  directory_first : (above : Path) (n : Name) (p : Path) → IsInDirectory above (n ∷ p) → has_directory (seen s above) ≡ true
  directory_first above n [] h = ap (λ (r : Path). has_directory (seen s r)) (sym (append-nil above)) ∙ h
  directory_first above n (k ∷ p) h = directory_above above n (parent (k ∷ p)) (directory_some (seen s (above ++ n ∷ parent (k ∷ p))) h)

  directory_rest : (above : Path) (n : Name) (p : Path) → IsInDirectory above (n ∷ p) → IsInDirectory (child above n) p
  directory_rest above n [] h = tt
  directory_rest above n (k ∷ p) h = ap (λ (r : Path). has_directory (seen s r)) (append_assoc above (n ∷ []) (parent (k ∷ p))) ∙ h

  way_there : (above p : Path) → is_firm (s above) ≡ true → IsInDirectory above p → is_way_below s above p ≡ true
  way_there above [] firm h = refl
  way_there above (n ∷ p) firm h =
      let directory = directory_first above n p h in
      ap (λ b. b && has_directory (seen s above) && is_way_below s (child above n) p) firm
      ∙ ap (λ b. b && is_way_below s (child above n) p) directory
      ∙ way_there (child above n) p (firm_child above n directory) (directory_rest above n p h)

  firm_there : (above p : Path) → is_firm (s above) ≡ true → IsInDirectory above p → is_firm (s (above ++ p)) ≡ true
  firm_there above [] firm h = ap (λ (r : Path). is_firm (s r)) (append-nil above) ∙ firm
  firm_there above (n ∷ p) firm h =
      ap (λ (r : Path). is_firm (s r)) (sym (append_assoc above (n ∷ []) p))
      ∙ firm_there (child above n) p (firm_child above n (directory_first above n p h)) (directory_rest above n p h)

  in_directory : (p : Path) → has_directory (seen s (parent p)) ≡ true → IsInDirectory [] p
  in_directory [] h = tt
  in_directory (n ∷ p) h = h

  pub on_disk : (p : Path) → has_directory (seen s (parent p)) ≡ true → IsOnDisk s p
  on_disk p h = (way_there [] p firm_root (in_directory p h), firm_there [] p firm_root (in_directory p h))

pub synced_left : (s : State) (left : Seen) → IsSynced s → MayLeave s left → (p : Path) → left p ≡ seen s p
synced_left s left on may p = left_is_shown s on left may p

-- ---- an empty folder

empty_inside : (p : Path) → is_some (seen empty p) ≡ true → has_directory (seen empty (parent p)) ≡ true
empty_inside [] h = refl
empty_inside (n ∷ p) h = absurd (true≢false (sym h))

empty_bytes : (p : Path) → (empty p).now.is_synced ≡ true
empty_bytes [] = refl
empty_bytes (n ∷ p) = refl

empty_names : (p : Path) → is_none_older (empty p).older ≡ true
empty_names [] = refl
empty_names (n ∷ p) = refl

pub empty_synced : IsSynced empty
empty_synced = record { root = refl; inside = empty_inside; bytes = empty_bytes; names = λ p h. empty_names p }
