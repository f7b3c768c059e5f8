-- Work that is carried out: what goes, another database, and what comes, and what is shown then.
use Rattle.std.proofs.Common.{◌≡◌, ◌⊎◌, Bool, true, false, ◌&&◌, ◌||◌, ℕ, ◌+◌, ◌≤◌, ◌<◌, ◌^◌, ◌-◌, min, zero, suc, inl, inr, List, [], ◌∷◌, ◌++◌, length, take, drop, get_or, refl, sym, ◌∙◌, ap, subst, true≢false, arith}
use Rattle.std.specs.Prelude.{bytes_eq, codes, cond, Option, Some, None, is_some, Result, Ok, Err, OnOk, ⊤}
use Rattle.std.specs.List.{list_all, list_any}
use Rattle.std.specs.Fmt.{decimal}
use Rattle.std.specs.BTreeSet.{BTreeSet, contains}
use Rattle.std.specs.BTreeMap.{is_at}
use Rattle.std.specs.Option.{unwrap_or}
use Rattle.std.proofs.lemmas.Bool.{and_parts, or_parts}
use Rattle.std.proofs.lemmas.List.{append_cancel_left, take-append-drop, length-drop, take_more, drop_more}
use Rattle.std.proofs.lemmas.List.Folds.{list_any-append}
use Rattle.std.proofs.lemmas.Slice.Eq.{bytes_eq-Decides}
use Rattle.std.proofs.Math.Seq.{take-length}
use Rattle.svn_types.specs.Names.{Path, path_cmp}
use Rattle.svn_types.specs.Paths.{path_eq}
use Rattle.svn_types.proofs.NameLemmas.{Name}
use Rattle.svn_types.proofs.PathLemmas.{same_path, path_eq-same, path_eq-symm}
use Rattle.svn_types.proofs.PathsInOrder.{at_path}
use Rattle.svn_digits.specs.Numbers.{number_of}
use Rattle.svn_digits.proofs.Decimals.{number_of_decimal}
use Rattle.svn_model.specs.declared.base_node.BaseNode.{BaseNode}
use Rattle.svn_model.specs.declared.base_node.BaseNode.TheVariants.{File as FileNode, Dir as DirNode, NotPresent}
use Rattle.svn_model.specs.Nodes.{get_in}
use Rattle.svn_wcrows.specs.declared.work.Work.{Work}
use Rattle.svn_wcrows.specs.declared.work.Work.TheVariants.{MakeDirectory, InstallFile, RemoveFile, RemoveDirectory}
use Rattle.svn_folder.specs.Entries.{has_leaf}
use Rattle.svn_folder.specs.declared.entry.Entry.{Entry}
use Rattle.svn_folder.specs.declared.step.Step.{Step}
use Rattle.svn_folder.specs.declared.step.Step.TheVariants.{Make, SyncFile, SyncDirectory, Rename, RenameDirectory, RemoveFile as RemoveFileStep, RemoveDirectory as RemoveDirectoryStep}
use Rattle.svn_folder.specs.States.{Seen, State, seen, nothing}
use Rattle.svn_folder.specs.Steps.{run, after}
use Rattle.svn_folder.specs.Pasts.{Past, Known, Unknown, Broken}
use Rattle.svn_folder.proofs.Showing.{put_here, put_elsewhere}
use Rattle.svn_disk.specs.Goes.{Keeps}
use Rattle.svn_disk.specs.Places.{is_outside, new_database_place, database_place}
use Rattle.svn_disk.specs.Plans.{path_of}
use Rattle.svn_disk.specs.Tasks.{is_removal, comes_at, node_at, work_node, work_nodes}
use Rattle.svn_disk.specs.Crashes.{IsTextAt, EachText}
use Rattle.svn_disk.specs.Ends.{TurnsTo, Turns, text_at, own_place, files_of, files_at, IsReadyAt, AreReady, ArePlaced, IsPlaced, AreOthers, AreDone, IsGoneBut, AreGoneBut, AreCarried, HasText, IsDone, EachDone, AreFiles, AreDistinct, IsExchanged, IsLessAt, IsGone, AreGone, IsOneGone, AreRemoved, IsSame, IsSameBut, IsPut, IsMoved, number_after, CopiesText}
use Rattle.svn_disk.proofs.Ends.{keeps_turns}
use Rattle.svn_disk.proofs.EndsWork.{EachPath, each_path, each_all, none_each, none_before, other_outside, IsSameOutside, done_outside, count_files, count_at_most}
use Rattle.svn_disk.proofs.EndsTexts.{second_apart}

abbrev svn : Name
svn = codes ".svn"

-- ---- paths that no two items share

pub apart_key : (old new : BTreeSet Path) (p q : Path) → contains path_cmp new q ≡ cond (is_at (path_cmp p) q) true (contains path_cmp old q)
    → contains path_cmp new q ≡ false → (path_eq p q ≡ false) × (contains path_cmp old q ≡ false)
apart_key old new p q updates h = by (is_at (path_cmp p) q) refl
  where
    by : (b : Bool) → is_at (path_cmp p) q ≡ b → (path_eq p q ≡ false) × (contains path_cmp old q ≡ false)
    by true e = absurd (true≢false (sym (updates ∙ ap (λ b. cond b true (contains path_cmp old q)) e) ∙ h))
    by false e = (sym (at_path p q) ∙ e, sym (updates ∙ ap (λ b. cond b true (contains path_cmp old q)) e) ∙ h)

pub distinct_step : (old new : BTreeSet Path) (x : Work) (after work : List Work) → contains path_cmp old (path_of x) ≡ false
    → ((q : Path) → contains path_cmp new q ≡ cond (is_at (path_cmp (path_of x)) q) true (contains path_cmp old q))
    → (EachPath (λ q. contains path_cmp old q ≡ false) (x ∷ after) → AreDistinct (x ∷ after) → AreDistinct work)
    → EachPath (λ q. contains path_cmp new q ≡ false) after → AreDistinct after → AreDistinct work
distinct_step old new x after work free updates first fresh distinct =
    first
    (free, each_path (λ q. contains path_cmp new q ≡ false) (λ q. contains path_cmp old q ≡ false) (λ q h. (apart_key old new (path_of x) q (updates q) h).1) after fresh) (
      none_each (path_eq (path_of x)) after
          (each_path (λ q. contains path_cmp new q ≡ false) (λ q. path_eq (path_of x) q ≡ false) (λ q h. (apart_key old new (path_of x) q (updates q) h).0) after fresh),
      distinct,
    )

-- ---- a part of a list

pub all_of_part : {X : Type 0} → (xs : List X) (k : ℕ) → take (length xs - k) (drop k xs) ≡ drop k xs
all_of_part xs k = ap (λ j. take j (drop k xs)) (sym (length-drop k xs)) ∙ take-length (drop k xs)

pub few_left : {X : Type 0} → (k : ℕ) (xs : List X) → length xs < 2 ^ 64 → length (drop k xs) < 2 ^ 64
few_left k xs few = let e = length-drop k xs in omega (arith, e, few)

-- ---- both of two things that are shown

in_state : State → Past → State
in_state d Unknown = d
in_state d (Known s steps) = run s steps
in_state d (Broken s steps) = d

pub turns_both : {R S : Seen → Seen → Type 0} → {old new : Past} → Turns R old new → Turns S old new → Turns (λ a b. R a b × S a b) old new
unfolding in_state
turns_both {S = S} first other = record {
  each = λ s steps is.
      let a = first.each s steps is in
      let b = other.each s steps is in
      let same : run b.state b.steps ≡ run a.state a.steps = ap (in_state s) (sym b.past ∙ a.past) in
      record {
        state = a.state;
        steps = a.steps;
        past = a.past;
        turns = (a.turns, subst (λ (t : State). S (seen (run s steps)) (seen t)) same b.turns);
      };
}

pub ends_both : {T : Type 0} → {E : Type 0} → (R S : Seen → Seen → Type 0) (old new : Past) (result : Result T E) → OnOk result (Turns R old new)
    → OnOk result (Turns S old new) → OnOk result (Turns (λ a b. R a b × S a b) old new)
ends_both R S old new (Ok value) first other = turns_both first other
ends_both R S old new (Err fault) first other = tt

-- ---- a file is removed

removal_at : Path → Step → Bool
removal_at p (RemoveFileStep q) = path_eq p q
removal_at p (Make q e t) = false
removal_at p (SyncFile q) = false
removal_at p (SyncDirectory q) = false
removal_at p (Rename q r) = false
removal_at p (RenameDirectory k m) = false
removal_at p (RemoveDirectoryStep q) = false

removed_off : (p r : Path) (step : Step) (s : State) → removal_at p step ≡ true → path_eq p r ≡ false → seen (after step s) r ≡ seen s r
unfolding removal_at
removed_off p r (RemoveFileStep q) s h other = put_elsewhere q r nothing s (subst (λ (x : Path). path_eq x r ≡ false) (same_path p q h) other)
removed_off p r (Make q e t) s h other = absurd (true≢false (sym h))
removed_off p r (SyncFile q) s h other = absurd (true≢false (sym h))
removed_off p r (SyncDirectory q) s h other = absurd (true≢false (sym h))
removed_off p r (Rename q u) s h other = absurd (true≢false (sym h))
removed_off p r (RenameDirectory k m) s h other = absurd (true≢false (sym h))
removed_off p r (RemoveDirectoryStep q) s h other = absurd (true≢false (sym h))

removals_same : (p : Path) (s : State) (more : List Step) → list_all (removal_at p) more ≡ true → IsSameBut p (seen s) (seen (run s more))
removals_same p s [] h r other = refl
removals_same p s (step ∷ more) h r other =
    let parts = and_parts (removal_at p step) (list_all (removal_at p) more) h in
    removals_same p (after step s) more parts.1 r other ∙ removed_off p r step s parts.0 other

pub remove_turns : (p : Path) (old new : Past) → ((P : Step → Bool) → list_all P (RemoveFileStep p ∷ []) ≡ true → Keeps P old new) → Turns (IsSameBut p) old new
unfolding removal_at
remove_turns p old new does = keeps_turns (IsSameBut p) (removal_at p) old new (removals_same p) (does (removal_at p) (ap (λ b. b && true) (path_eq-same p)))

-- a path has nothing any more
pub removes_less : (p : Path) (s : State) → IsLessAt p (seen s) (seen (after (RemoveFileStep p) s)) × (has_leaf (seen (after (RemoveFileStep p) s) p) ≡ false)
removes_less p s =
    let gone : seen (after (RemoveFileStep p) s) p ≡ None = put_here p p nothing s (path_eq-same p) in
    (record { here = inr gone; others = λ r other. put_elsewhere p r nothing s other }, ap has_leaf gone)

pub directory_less : (p : Path) (s : State) → IsLessAt p (seen s) (seen (after (RemoveDirectoryStep p) s))
directory_less p s =
    record { here = inr (put_here p p nothing s (path_eq-same p)); others = λ r other. put_elsewhere p r nothing s other }

pub less_none : (p : Path) (a : Seen) → IsLessAt p a a
less_none p a = record { here = inl refl; others = λ r other. refl }

-- ---- all that goes

less_leafless : (p q : Path) (b c : Seen) → IsLessAt p b c → has_leaf (b q) ≡ false → has_leaf (c q) ≡ false
less_leafless p q b c less none = by (path_eq p q) refl
  where
    here : (c p ≡ b p) ⊎ (c p ≡ None) → has_leaf (b p) ≡ false → has_leaf (c p) ≡ false
    here (inl same) h = ap has_leaf same ∙ h
    here (inr gone) h = ap has_leaf gone

    by : (t : Bool) → path_eq p q ≡ t → has_leaf (c q) ≡ false
    by false other = ap has_leaf (less.others q other) ∙ none
    by true e =
        let same : p ≡ q = same_path p q e in
        subst (λ (r : Path). has_leaf (c r) ≡ false) same (here less.here (ap (λ (r : Path). has_leaf (b r)) same ∙ none))

one_leafless : (x : Work) (q : Path) (b c : Seen) → IsOneGone x b c → has_leaf (b q) ≡ false → has_leaf (c q) ≡ false
one_leafless (MakeDirectory p) q b c gone none = ap has_leaf (gone q) ∙ none
one_leafless (InstallFile p) q b c gone none = ap has_leaf (gone q) ∙ none
one_leafless (RemoveFile p) q b c gone none = less_leafless p q b c gone.0 none
one_leafless (RemoveDirectory p) q b c gone none = less_leafless p q b c gone none

gone_stays : (item x : Work) (b c : Seen) → IsOneGone x b c → IsGone item b → IsGone item c
gone_stays (MakeDirectory p) x b c gone is = tt
gone_stays (InstallFile p) x b c gone is = tt
gone_stays (RemoveFile p) x b c gone is = one_leafless x p b c gone is
gone_stays (RemoveDirectory p) x b c gone is = tt

one_gone : (x : Work) (b c : Seen) → IsOneGone x b c → IsGone x c × ((q : Path) → path_eq (path_of x) q ≡ false → c q ≡ b q)
one_gone (MakeDirectory p) b c gone = (tt, λ q other. gone q)
one_gone (InstallFile p) b c gone = (tt, λ q other. gone q)
one_gone (RemoveFile p) b c gone = (gone.1, λ q other. gone.0.others q other)
one_gone (RemoveDirectory p) b c gone = (tt, λ q other. gone.others q other)

gone_more : (some : List Work) (x : Work) (b c : Seen) → IsOneGone x b c → AreGone some b → AreGone (some ++ x ∷ []) c
gone_more [] x b c gone are = ((one_gone x b c gone).0, tt)
gone_more (item ∷ some) x b c gone are = (gone_stays item x b c gone are.0, gone_more some x b c gone are.1)

pub removed_none : (a : Seen) → AreRemoved [] a a
removed_none a = record { gone = tt; others = λ q other. refl }

pub removed_more : (some : List Work) (x : Work) (a b c : Seen) → AreRemoved some a b → IsOneGone x b c → AreRemoved (some ++ x ∷ []) a c
removed_more some x a b c first gone = record {
  gone = gone_more some x b c gone first.gone;
  others = λ q other. let parts = none_before q some x other in (one_gone x b c gone).1 q parts.1 ∙ first.others q parts.0;
}

pub removed_still : (work : List Work) (a b c : Seen) → AreRemoved work a b → IsSame b c → AreRemoved work a c
removed_still work a b c first same = record { gone = all_gone work first.gone; others = λ q other. same q ∙ first.others q other }
  where
    all_gone : (items : List Work) → AreGone items b → AreGone items c
    all_gone [] are = tt
    all_gone (MakeDirectory p ∷ items) are = (tt, all_gone items are.1)
    all_gone (InstallFile p ∷ items) are = (tt, all_gone items are.1)
    all_gone (RemoveFile p ∷ items) are = (ap has_leaf (same p) ∙ are.0, all_gone items are.1)
    all_gone (RemoveDirectory p ∷ items) are = (tt, all_gone items are.1)

-- ---- another database

database_own : (i : ℕ) → path_eq (database_place svn) (own_place svn i) ≡ false
database_own i = second_apart svn (codes "wc.db") (codes "tmp") [] ((codes "new-" ++ decimal i) ∷ []) refl

-- a name that is a number isn't that of the new database
new_database_apart : (i : ℕ) → i < 2 ^ 64 → bytes_eq (codes "new-wc.db") (codes "new-" ++ decimal i) ≡ false
new_database_apart i small = by (bytes_eq (codes "new-wc.db") (codes "new-" ++ decimal i)) refl
  where
    by : (b : Bool) → bytes_eq (codes "new-wc.db") (codes "new-" ++ decimal i) ≡ b → b ≡ false
    by false e = refl
    by true e =
        let same : codes "wc.db" ≡ decimal i =
        append_cancel_left (codes "new-") (codes "wc.db") (decimal i) ((bytes_eq-Decides (codes "new-wc.db") (codes "new-" ++ decimal i)).0 e) in
        absurd (true≢false (sym (ap is_some (number_of_decimal i small)) ∙ ap (λ x. is_some (number_of x)) (sym same)))

and_false : (a b : Bool) → b ≡ false → (a && b) ≡ false
and_false true b h = h
and_false false b h = refl

new_database_own : (i : ℕ) → i < 2 ^ 64 → path_eq (new_database_place svn) (own_place svn i) ≡ false
new_database_own i small =
    and_false (bytes_eq svn svn) (bytes_eq (codes "tmp") (codes "tmp") && (bytes_eq (codes "new-wc.db") (codes "new-" ++ decimal i) && true))
    (ap (λ b. b && true) (new_database_apart i small))

pub exchanged_own : (i : ℕ) (a b : Seen) → i < 2 ^ 64 → IsExchanged svn a b → b (own_place svn i) ≡ a (own_place svn i)
exchanged_own i a b small exchanged = exchanged (own_place svn i) (new_database_own i small) (database_own i)

pub exchanged_outside : (a b : Seen) → IsExchanged svn a b → IsSameOutside a b
exchanged_outside a b exchanged q outside =
    exchanged q (path_eq-symm (new_database_place svn) q ∙ other_outside q (new_database_place svn) outside refl)
    (path_eq-symm (database_place svn) q ∙ other_outside q (database_place svn) outside refl)

pub exchanged_none : (n : Name) (a : Seen) → IsExchanged n a a
exchanged_none n a r h k = refl

pub exchanged_more : (n : Name) (a b c : Seen) → IsExchanged n a b → IsExchanged n b c → IsExchanged n a c
exchanged_more n a b c first later r h k = later r h k ∙ first r h k

-- what is at the place of the new database alone
pub exchanged_but : (n : Name) (p : Path) (a b : Seen) → p ≡ new_database_place n → IsSameBut p a b → IsExchanged n a b
exchanged_but n p a b at same r h k = same r (ap (λ (x : Path). path_eq x r) at ∙ h)

pub exchanged_put : (n : Name) (p : Path) (e : Option Entry) (a b : Seen) → p ≡ new_database_place n → IsPut p e a b → IsExchanged n a b
exchanged_put n p e a b at put r h k = put.others r (ap (λ (x : Path). path_eq x r) at ∙ h)

pub exchanged_moved : (n : Name) (p q : Path) (a b : Seen) → p ≡ new_database_place n → q ≡ database_place n → IsMoved p q a b → IsExchanged n a b
exchanged_moved n p q a b at to moved r h k =
    moved.others r (ap (λ (x : Path). path_eq x r) at ∙ h) (ap (λ (x : Path). path_eq x r) to ∙ k)

pub exchanged_same : (n : Name) (a b : Seen) → IsSame a b → IsExchanged n a b
exchanged_same n a b same r h k = same r

-- ---- all of it

-- what goes is gone, and the files under their own names wait
pub record HasRemoved (removals : List Work) (before left : Seen) : Type 0 where
  pub gone : AreGone removals left
  pub waiting : (j : ℕ) → j < 2 ^ 64 → left (own_place svn j) ≡ before (own_place svn j)

gone_outside : (work : List Work) (b c : Seen) → EachPath (λ p. is_outside p ≡ true) work → IsSameOutside b c → AreGone work b → AreGone work c
gone_outside [] b c out same are = tt
gone_outside (MakeDirectory p ∷ work) b c out same are = (tt, gone_outside work b c out.1 same are.1)
gone_outside (InstallFile p ∷ work) b c out same are = (tt, gone_outside work b c out.1 same are.1)
gone_outside (RemoveFile p ∷ work) b c out same are = (ap has_leaf (same p out.0) ∙ are.0, gone_outside work b c out.1 same are.1)
gone_outside (RemoveDirectory p ∷ work) b c out same are = (tt, gone_outside work b c out.1 same are.1)

pub removed_exchanged : (removals : List Work) (a b c : Seen) → list_all (λ item. is_outside (path_of item)) removals ≡ true → AreRemoved removals a b
    → IsExchanged svn b c → HasRemoved removals a c
removed_exchanged removals a b c outside removed exchanged = record {
  gone = gone_outside removals b c (each_all is_outside removals outside) (exchanged_outside b c exchanged) removed.gone;
  waiting = λ j small.
      exchanged_own j b c small exchanged
      ∙ removed.others (own_place svn j)
      (none_each (λ p. path_eq p (own_place svn j)) removals
      (each_path (λ p. is_outside p ≡ true) (λ p. path_eq p (own_place svn j) ≡ false) (λ p h. other_outside p (own_place svn j) h refl) removals
      (each_all is_outside removals outside)));
}

placed_one_within : (i : ℕ) (item : Work) (a b c : Seen) → i + files_of item < 2 ^ 64 → ((j : ℕ) → j < 2 ^ 64 → b (own_place svn j) ≡ a (own_place svn j))
    → IsPlaced svn i item b c → IsPlaced svn i item a c
placed_one_within i (MakeDirectory p) a b c few same is = is
placed_one_within i (InstallFile p) a b c few same is = is ∙ same i (let k : i + 1 < 2 ^ 64 = few in omega (arith, k))
placed_one_within i (RemoveFile p) a b c few same is = tt
placed_one_within i (RemoveDirectory p) a b c few same is = tt

placed_within : (i : ℕ) (work : List Work) (a b c : Seen) → i + count_files work < 2 ^ 64
    → ((j : ℕ) → j < 2 ^ 64 → b (own_place svn j) ≡ a (own_place svn j)) → ArePlaced svn i work b c → ArePlaced svn i work a c
placed_within i [] a b c few same are = tt
placed_within i (item ∷ work) a b c few same are =
    let k : i + (files_of item + count_files work) < 2 ^ 64 = few in (
      placed_one_within i item a b c (omega (arith, k)) same are.0,
      placed_within (i + files_of item) work a b c (omega (arith, k)) same are.1,
    )

-- where something went and nothing came
gone_but : (makings removals : List Work) (b c : Seen) → EachPath (λ p. is_outside p ≡ true) removals → AreOthers makings b c → AreGone removals b
    → AreGoneBut makings removals c
gone_but makings [] b c out others are = tt
gone_but makings (MakeDirectory p ∷ removals) b c out others are = (tt, gone_but makings removals b c out.1 others are.1)
gone_but makings (InstallFile p ∷ removals) b c out others are = (tt, gone_but makings removals b c out.1 others are.1)
gone_but makings (RemoveFile p ∷ removals) b c out others are =
    (λ none. ap has_leaf (others p out.0 none) ∙ are.0, gone_but makings removals b c out.1 others are.1)
gone_but makings (RemoveDirectory p ∷ removals) b c out others are = (tt, gone_but makings removals b c out.1 others are.1)

pub carried : (removals makings : List Work) (a c d : Seen) → length makings < 2 ^ 64 → list_all (λ item. is_outside (path_of item)) removals ≡ true
    → HasRemoved removals a c → AreDone svn makings c d → AreCarried svn removals makings a d
carried removals makings a c d few outside removed done = record {
  placed = placed_within 0 makings a c d (let k = count_at_most makings in omega (arith, k, few)) removed.waiting done.placed;
  gone = gone_but makings removals c d (each_all is_outside removals outside) done.others removed.gone;
}

gone_but_still : (makings removals : List Work) (c d : Seen) → EachPath (λ p. is_outside p ≡ true) removals → IsSameOutside c d
    → AreGoneBut makings removals c → AreGoneBut makings removals d
gone_but_still makings [] c d out same are = tt
gone_but_still makings (MakeDirectory p ∷ removals) c d out same are = (tt, gone_but_still makings removals c d out.1 same are.1)
gone_but_still makings (InstallFile p ∷ removals) c d out same are = (tt, gone_but_still makings removals c d out.1 same are.1)
gone_but_still makings (RemoveFile p ∷ removals) c d out same are =
    (λ none. ap has_leaf (same p out.0) ∙ are.0 none, gone_but_still makings removals c d out.1 same are.1)
gone_but_still makings (RemoveDirectory p ∷ removals) c d out same are = (tt, gone_but_still makings removals c d out.1 same are.1)

pub carried_exchanged : (removals makings : List Work) (a d e : Seen) → list_all (λ item. is_outside (path_of item)) removals ≡ true
    → list_all (λ item. is_outside (path_of item)) makings ≡ true → AreCarried svn removals makings a d → IsExchanged svn d e
    → AreCarried svn removals makings a e
carried_exchanged removals makings a d e out outside carried exchanged =
    let same = exchanged_outside d e exchanged in
    record {
      placed = done_outside makings a d e outside carried.placed same;
      gone = gone_but_still makings removals d e (each_all is_outside removals out) same carried.gone;
    }

-- ---- what the work was for

-- a file of a copy is at its path
text_there : (copy : List (Path × BaseNode)) (p : Path) (i : ℕ) (b c : Seen) → files_at (node_at copy p) ≡ 1 → IsReadyAt svn i (node_at copy p) b
    → c p ≡ b (own_place svn i) → HasText copy p c
text_there copy p i b c file ready placed = by (get_in copy p) refl file ready
  where
    by : (found : Option BaseNode) → get_in copy p ≡ found → files_at (unwrap_or found NotPresent) ≡ 1 → IsReadyAt svn i (unwrap_or found NotPresent) b → HasText copy p c
    by None is one at = let k : 0 ≡ 1 = one in absurd (omega (arith, k))
    by (Some NotPresent) is one at = let k : 0 ≡ 1 = one in absurd (omega (arith, k))
    by (Some (DirNode r q u ps)) is one at = let k : 0 ≡ 1 = one in absurd (omega (arith, k))
    by (Some (FileNode r q t ps)) is one at = record {
      text = t;
      is = record { node = FileNode r q t ps; found = is; text = refl };
      there = ap text_at placed ∙ at;
    }

pub placed_done : (copy : List (Path × BaseNode)) (i : ℕ) (makings all : List Work) (b c : Seen) → list_any is_removal makings ≡ false → AreFiles copy makings
    → AreReady svn i (work_nodes copy makings) b → ArePlaced svn i makings b c → EachDone copy all makings c
placed_done copy i [] all b c none files ready placed = tt
placed_done copy i (MakeDirectory p ∷ makings) all b c none files ready placed =
    (placed.0, placed_done copy (i + 0) makings all b c none files.1 ready.1 placed.1)
placed_done copy i (InstallFile p ∷ makings) all b c none files ready placed = (
  text_there copy p i b c files.0 ready.0 placed.0,
  placed_done copy (i + 1) makings all b c none files.1
      (subst (λ (j : ℕ). AreReady svn (i + j) (work_nodes copy makings) b) files.0 ready.1) placed.1,
)
placed_done copy i (RemoveFile p ∷ makings) all b c none files ready placed = absurd (true≢false none)
placed_done copy i (RemoveDirectory p ∷ makings) all b c none files ready placed = absurd (true≢false none)

-- what comes to a path, of what comes
none_comes : (p : Path) (makings : List Work) → list_any is_removal makings ≡ false → list_any (comes_at p) makings ≡ false
    → list_any (λ item. path_eq (path_of item) p) makings ≡ false
none_comes p [] kind none = refl
none_comes p (MakeDirectory q ∷ makings) kind none =
    let parts = or_parts (path_eq q p) (list_any (comes_at p) makings) none in
    ap (λ b. b || list_any (λ item. path_eq (path_of item) p) makings) parts.0 ∙ none_comes p makings kind parts.1
none_comes p (InstallFile q ∷ makings) kind none =
    let parts = or_parts (path_eq q p) (list_any (comes_at p) makings) none in
    ap (λ b. b || list_any (λ item. path_eq (path_of item) p) makings) parts.0 ∙ none_comes p makings kind parts.1
none_comes p (RemoveFile q ∷ makings) kind none = absurd (true≢false kind)
none_comes p (RemoveDirectory q ∷ makings) kind none = absurd (true≢false kind)

pub gone_done : (copy : List (Path × BaseNode)) (removals first makings : List Work) (c : Seen) → list_all is_removal removals ≡ true
    → list_any is_removal makings ≡ false → AreGoneBut makings removals c → EachDone copy (first ++ makings) removals c
gone_done copy [] first makings c kind none gone = tt
gone_done copy (MakeDirectory p ∷ removals) first makings c kind none gone = absurd (true≢false (sym kind))
gone_done copy (InstallFile p ∷ removals) first makings c kind none gone = absurd (true≢false (sym kind))
gone_done copy (RemoveFile p ∷ removals) first makings c kind none gone = (
  λ free.
      let parts = or_parts (list_any (comes_at p) first) (list_any (comes_at p) makings) (sym (list_any-append (comes_at p) first makings) ∙ free) in
      gone.0 (none_comes p makings none parts.1),
  gone_done copy removals first makings c kind none gone.1,
)
gone_done copy (RemoveDirectory p ∷ removals) first makings c kind none gone = (tt, gone_done copy removals first makings c kind none gone.1)

pub done_join : (copy : List (Path × BaseNode)) (all some more : List Work) (c : Seen) → EachDone copy all some c → EachDone copy all more c
    → EachDone copy all (some ++ more) c
done_join copy all [] more c first later = later
done_join copy all (item ∷ some) more c first later = (first.0, done_join copy all some more c first.1 later)

-- both parts of some work, which was carried out
pub carried_done : (copy : List (Path × BaseNode)) (k : ℕ) (work : List Work) (b c : Seen) → list_all is_removal (take k work) ≡ true
    → list_any is_removal (drop k work) ≡ false → AreFiles copy (drop k work) → AreReady svn 0 (work_nodes copy (drop k work)) b
    → AreCarried svn (take k work) (drop k work) b c → EachDone copy work work c
carried_done copy k work b c kind none files ready carried =
    subst (λ (xs : List Work). EachDone copy xs xs c) (take-append-drop k work)
    (done_join copy (take k work ++ drop k work) (take k work) (drop k work) c
    (gone_done copy (take k work) (take k work) (drop k work) c kind none carried.gone)
    (placed_done copy 0 (drop k work) (take k work ++ drop k work) b c none files ready carried.placed))

-- ---- files that are prepared anew

pub removed_copies : (p q : Path) (a b c : Seen) → path_eq q p ≡ false → IsSameBut q a b → CopiesText p q b c → CopiesText p q a c
removed_copies p q a b c other same copies =
    let here = same p other in
    record {
      there = ap (λ (e : Option Entry). is_some (text_at e)) (sym here) ∙ copies.there;
      same = copies.same ∙ ap text_at here;
      others = λ r apart. copies.others r apart ∙ same r apart;
    }

number_is : (node : BaseNode) (i : ℕ) → i < 2 ^ 64 → number_after node i ≡ min (i + files_at node) (2 ^ 64 - 1)
number_is (FileNode r q t ps) i small = refl
number_is (DirNode r q c ps) i small = omega (arith, small)
number_is NotPresent i small = omega (arith, small)

pub work_counts : (copy : List (Path × BaseNode)) (item : Work) (i files next : ℕ) → files_at (work_node copy item) ≡ files_of item → files ≡ files_of item → i < 2 ^ 64
    → next ≡ min (i + files) (2 ^ 64 - 1) → next ≡ number_after (work_node copy item) i
work_counts copy item i files next file are small is =
    is ∙ ap (λ k. min (i + k) (2 ^ 64 - 1)) (are ∙ sym file) ∙ sym (number_is (work_node copy item) i small)

-- by the index of the next item
pub nodes_rest : (copy : List (Path × BaseNode)) (work : List Work) (k : ℕ) (x : Work) → k < length work → x ≡ get_or work k x
    → work_nodes copy (drop k work) ≡ (path_of x, work_node copy x) ∷ work_nodes copy (drop (k + 1) work)
nodes_rest copy work k x below is =
    ap (work_nodes copy) (drop_more work k x below) ∙ ap (λ (y : Work). (path_of y, work_node copy y) ∷ work_nodes copy (drop (k + 1) work)) (sym is)

pub nodes_count : (copy : List (Path × BaseNode)) (work : List Work) → length (work_nodes copy work) ≡ length work
nodes_count copy [] = refl
nodes_count copy (item ∷ work) = let e = nodes_count copy work in omega (arith, e)

files_next : (copy : List (Path × BaseNode)) (some : List Work) (x : Work) → AreFiles copy some → files_at (work_node copy x) ≡ files_of x
    → AreFiles copy (some ++ x ∷ [])
files_next copy [] x files is = (is, tt)
files_next copy (item ∷ some) x files is = (files.0, files_next copy some x files.1 is)

pub files_more : (copy : List (Path × BaseNode)) (work : List Work) (k : ℕ) (x : Work) → k < length work → x ≡ get_or work k x → AreFiles copy (take k work)
    → files_at (work_node copy x) ≡ files_of x → AreFiles copy (take (k + 1) work)
files_more copy work k x below is files file =
    subst (AreFiles copy) (ap (λ (y : Work). take k work ++ y ∷ []) is ∙ sym (take_more work k x below)) (files_next copy (take k work) x files file)

pub files_all : (copy : List (Path × BaseNode)) (work : List Work) (k : ℕ) → k ≡ length work → AreFiles copy (take k work) → AreFiles copy work
files_all copy work k is files = subst (AreFiles copy) (ap (λ j. take j work) is ∙ take-length work) files

pub nodes_end : (copy : List (Path × BaseNode)) (work : List Work) (k : ℕ) → k ≡ length work → work_nodes copy (drop k work) ≡ []
nodes_end copy work k is = ap (λ j. work_nodes copy (drop j work)) is ∙ none work
  where
    none : (items : List Work) → work_nodes copy (drop (length items) items) ≡ []
    none [] = refl
    none (item ∷ items) = none items

-- texts of the work that is left
pub texts_dropped : (P : List ℕ → Type 0) (copy : List (Path × BaseNode)) (k : ℕ) (work : List Work) → EachText P (work_nodes copy work)
    → EachText P (work_nodes copy (drop k work))
texts_dropped P copy zero work texts = texts
texts_dropped P copy (suc k) [] texts = tt
texts_dropped P copy (suc k) (item ∷ work) texts = texts_dropped P copy k work texts.1
