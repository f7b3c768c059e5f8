-- What a crash leaves of names that are on the disk, and on the way to a path.
use Rattle.std.proofs.Common.{◌≡◌, Bool, true, false, ◌&&◌, ◌⊎◌, inl, inr, ⊎_elim, not, List, [], ◌∷◌, ◌++◌, refl, sym, ◌∙◌, ap, subst, true≢false, append_assoc, append-nil}
use Rattle.std.specs.Prelude.{cond, Option, None}
use Rattle.std.proofs.lemmas.Bool.{and_parts}
use Rattle.svn_types.specs.Names.{Path}
use Rattle.svn_types.specs.Paths.{path_eq, is_within, is_root, parent, child}
use Rattle.svn_types.proofs.NameLemmas.{Name}
use Rattle.svn_types.proofs.PathLemmas.{path_eq-same, path_eq-symm, path_eq-longer, same_path, within_append, apart_paths}
use Rattle.svn_folder.specs.declared.entry.Entry.{Entry}
use Rattle.svn_folder.specs.Entries.{has_directory}
use Rattle.svn_folder.specs.States.{Seen, Held, Place, State, seen, nothing, becomes, with_name}
use Rattle.svn_folder.specs.Steps.{put, sync_directory, is_none_older, is_in}
use Rattle.svn_folder.specs.Crashes.{IsLeftOf, IsLeftOfOne, shown_below, shown, MayLeave}
use Rattle.svn_folder.specs.Laws.{is_firm, is_way_below, is_way, CanReplace}

-- ---- one name

-- an entry whose bytes are on the disk is left as it is
synced_left : (held : Held) (e : Option Entry) → held.is_synced ≡ true → IsLeftOf held e → e ≡ held.entry
synced_left held e h (inl same) = same
synced_left held e h (inr torn) = absurd (true≢false (sym h ∙ torn.0))

firm_of : (now : Held) (older : List Held) (e : Option Entry) → (is_none_older older && now.is_synced) ≡ true → IsLeftOfOne (now ∷ older) e → e ≡ now.entry
firm_of now [] e h (inl here) = synced_left now e h here
firm_of now [] e h (inr none) = absurd none
firm_of now (held ∷ older) e h left = absurd (true≢false (sym h))

pub firm_left : (place : Place) (e : Option Entry) → is_firm place ≡ true → IsLeftOfOne (place.now ∷ place.older) e → e ≡ place.now.entry
firm_left place e h left = firm_of place.now place.older e h left

newest_first : (older : List Held) (now : Held) (e : Option Entry) → IsLeftOfOne (older ++ now ∷ []) e → IsLeftOfOne (now ∷ older) e
newest_first [] now e left = left
newest_first (held ∷ older) now e (inl here) = inr (inl here)
newest_first (held ∷ older) now e (inr later) = ⊎_elim (λ new. inl new) (λ old. inr (inr old)) (newest_first older now e later)

-- ---- names on the disk

-- names that a crash in this state may leave
abbrev pub AreLeft : State → Seen → Type 0
AreLeft s names = (p : Path) → IsLeftOfOne ((s p).now ∷ (s p).older) (names p)

module _ (s : State) (names : Seen) (each : AreLeft s names) where
  -- where the way is on the disk, what is shown is what the name stands for
  way_shown : (above p : Path) → is_way_below s above p ≡ true → shown_below names above p ≡ names (above ++ p)
  way_shown above [] h = ap names (sym (append-nil above))
  way_shown above (n ∷ p) h =
      let one = and_parts (is_firm (s above) && has_directory (s above).now.entry) (is_way_below s (child above n) p) h in
      let two = and_parts (is_firm (s above)) (has_directory (s above).now.entry) one.0 in
      let there : has_directory (names above) ≡ true = ap has_directory (firm_left (s above) (names above) two.0 (each above)) ∙ two.1 in
      ap (λ b. cond b (shown_below names (child above n) p) None) there
      ∙ way_shown (child above n) p one.1
      ∙ ap names (append_assoc above (n ∷ []) p)

pub left_shown : (s : State) (left : Seen) (p : Path) (may : MayLeave s left) → is_way s p ≡ true → left p ≡ may.names p
left_shown s left p may h = may.is_shown p ∙ way_shown s may.names may.each [] p h

pub stays : (s : State) (p : Path) (left : Seen) → is_way s p ≡ true → is_firm (s p) ≡ true → MayLeave s left → left p ≡ seen s p
stays s p left way firm may = left_shown s left p may way ∙ firm_left (s p) (may.names p) firm (may.each p)

pub shown_left : (s : State) → MayLeave s (shown (seen s))
shown_left s = record { names = seen s; each = λ p. inl (inl refl); is_shown = λ p. refl }

-- ---- a way that stays

-- a way is the same in a state that has the same places on it
same_way : (s t : State) (above p : Path) → ((r : Path) (n : Name) (u : Path) → r ++ n ∷ u ≡ above ++ p → t r ≡ s r) → is_way_below s above p ≡ true
    → is_way_below t above p ≡ true
same_way s t above [] same h = refl
same_way s t above (n ∷ p) same h =
    let parts = and_parts (is_firm (s above) && has_directory (s above).now.entry) (is_way_below s (child above n) p) h in
    let here : (is_firm (t above) && has_directory (t above).now.entry) ≡ true = ap (λ (place : Place). is_firm place && has_directory place.now.entry) (same above n p refl) ∙ parts.0 in
    let rest : is_way_below t (child above n) p ≡ true =
    same_way s t (child above n) p (λ r m u e. same r m u (e ∙ append_assoc above (n ∷ []) p)) parts.1 in
    ap (λ b. b && is_way_below t (child above n) p) here ∙ rest

none_older : (place : Place) (b c : Bool) → (is_firm place && b && c) ≡ true → is_none_older place.older ≡ true
none_older place b c h =
    let one = and_parts (is_firm place && b) c h in
    (and_parts (is_none_older place.older) place.now.is_synced (and_parts (is_firm place) b one.0).0).0

-- where the way to a path is on the disk, a sync of its directory counts
parent_firm : (t : State) (above q : Path) → is_root q ≡ false → is_way_below t above q ≡ true → is_none_older (t (above ++ parent q)).older ≡ true
parent_firm t above [] h way = absurd (true≢false h)
parent_firm t above (n ∷ []) h way =
    ap (λ (r : Path). is_none_older (t r).older) (append-nil above) ∙ none_older (t above) (has_directory (t above).now.entry) true way
parent_firm t above (m ∷ n ∷ q) h way =
    let rest = (and_parts (is_firm (t above) && has_directory (t above).now.entry) (is_way_below t (child above m) (n ∷ q)) way).1 in
    ap (λ (r : Path). is_none_older (t r).older) (sym (append_assoc above (m ∷ []) (parent (n ∷ q)))) ∙ parent_firm t (child above m) (n ∷ q) refl rest

-- ---- a sync takes outcomes away, and adds none

fewer : (b : Bool) (place : Place) (e : Option Entry) → IsLeftOfOne ((cond b (with_name place) place).now ∷ (cond b (with_name place) place).older) e
    → IsLeftOfOne (place.now ∷ place.older) e
fewer true place e (inl here) = inl here
fewer true place e (inr none) = absurd none
fewer false place e left = left

pub sync_left : (d : Path) (t : State) (names : Seen) → AreLeft (sync_directory d t) names → AreLeft t names
sync_left d t names each p = fewer (is_in d p && is_none_older (t d).older) (t p) (names p) (each p)

abbrev pub sync_leaves : (d : Path) (t : State) (left : Seen) → MayLeave (sync_directory d t) left → MayLeave t left
sync_leaves d t left may = record { names = may.names; each = sync_left d t may.names may.each; is_shown = may.is_shown }

-- ---- a file in place of another

module _ (s : State) (p q : Path) (can : CanReplace s p q) where
  -- after the rename
  abbrev renamed : State
  renamed = put q (s p).now (put p nothing s)

  apart_here : path_eq p q ≡ false
  apart_here = apart_paths p q can.apart

  -- on the way to q nothing has changed
  above_same : (r : Path) (n : Name) (u : Path) → r ++ n ∷ u ≡ q → renamed r ≡ s r
  above_same r n u e = ap (λ b. cond b (becomes (s p).now (put p nothing s r)) (put p nothing s r)) not_q ∙ ap (λ b. cond b (becomes nothing (s r)) (s r)) (not_p (path_eq p r) refl)
    where
      not_q : path_eq q r ≡ false
      not_q = path_eq-symm q r ∙ ap (path_eq r) (sym e) ∙ path_eq-longer r n u

      not_p : (b : Bool) → path_eq p r ≡ b → b ≡ false
      not_p false h = refl
      not_p true h = absurd (true≢false (sym (within_append r (n ∷ u)) ∙ ap (is_within r) e ∙ sym (ap (λ (x : Path). is_within x q) (same_path p r h)) ∙ can.apart))

  way_after : is_way renamed q ≡ true
  way_after = same_way s renamed [] q above_same can.way

  -- the place itself
  place_after : renamed q ≡ becomes (s p).now (s q)
  place_after =
      ap (λ b. cond b (becomes (s p).now (put p nothing s q)) (put p nothing s q)) (path_eq-same q)
      ∙ ap (λ b. becomes (s p).now (cond b (becomes nothing (s q)) (s q))) apart_here

  old_or_new : (e : Option Entry) → IsLeftOfOne ((becomes (s p).now (s q)).now ∷ (becomes (s p).now (s q)).older) e → (e ≡ seen s q) ⊎ (e ≡ seen s p)
  old_or_new e (inl new) = inr (synced_left (s p).now e can.new new)
  old_or_new e (inr old) = inl (firm_left (s q) e can.old (newest_first (s q).older (s q).now e old))

  renamed_leaves : (left : Seen) → MayLeave renamed left → (left q ≡ seen s q) ⊎ (left q ≡ seen s p)
  renamed_leaves left may =
      let shows : left q ≡ may.names q = left_shown renamed left q may way_after in
      let cases = old_or_new (may.names q) (subst (λ (x : Place). IsLeftOfOne (x.now ∷ x.older) (may.names q)) place_after (may.each q)) in
      ⊎_elim (λ (old : may.names q ≡ seen s q). inl (shows ∙ old)) (λ (new : may.names q ≡ seen s p). inr (shows ∙ new)) cases

  pub each_moment : (left : Seen) → (MayLeave s left ⊎ ⊥ ⊎ (MayLeave renamed left ⊎ ⊥ ⊎ MayLeave (sync_directory (parent q) renamed) left))
      → (left q ≡ seen s q) ⊎ (left q ≡ seen s p)
  each_moment left (inl before) = inl (stays s q left can.way can.old before)
  each_moment left (inr (inl none)) = absurd none
  each_moment left (inr (inr (inl may))) = renamed_leaves left may
  each_moment left (inr (inr (inr (inl none)))) = absurd none
  each_moment left (inr (inr (inr (inr may)))) = renamed_leaves left (sync_leaves (parent q) renamed left may)

  -- the sync counts
  counts : (is_in (parent q) q && is_none_older (renamed (parent q)).older) ≡ true
  counts =
      ap (λ b. not b && path_eq (parent q) (parent q) && is_none_older (renamed (parent q)).older) can.below
      ∙ ap (λ b. b && is_none_older (renamed (parent q)).older) (path_eq-same (parent q))
      ∙ parent_firm renamed [] q can.below way_after

  synced_place : sync_directory (parent q) renamed q ≡ with_name (becomes (s p).now (s q))
  synced_place = ap (λ b. cond b (with_name (renamed q)) (renamed q)) counts ∙ ap with_name place_after

  pub in_the_end : (left : Seen) → MayLeave (sync_directory (parent q) renamed) left → left q ≡ seen s p
  in_the_end left may =
      let shows : left q ≡ may.names q = left_shown renamed left q (sync_leaves (parent q) renamed left may) way_after in
      let is : IsLeftOfOne ((s p).now ∷ []) (may.names q) = subst (λ (x : Place). IsLeftOfOne (x.now ∷ x.older) (may.names q)) synced_place (may.each q) in
      shows ∙ firm_of (s p).now [] (may.names q) can.new is

pub replaced : (s : State) (p q : Path) (left : Seen) → CanReplace s p q
    → ((MayLeave s left ⊎ ⊥ ⊎ (MayLeave (put q (s p).now (put p nothing s)) left ⊎ ⊥ ⊎ MayLeave (sync_directory (parent q) (put q (s p).now (put p nothing s))) left))
    → (left q ≡ seen s q) ⊎ (left q ≡ seen s p))
    × (MayLeave (sync_directory (parent q) (put q (s p).now (put p nothing s))) left → left q ≡ seen s p)
replaced s p q left can = (each_moment s p q can left, in_the_end s p q can left)
