-- Work of which the directories are made and the files get their places, and what is shown then.
use Rattle.std.proofs.Common.{◌≡◌, ◌≢◌, Bool, true, false, ◌||◌, ℕ, ◌+◌, ◌≤◌, ◌<◌, ◌^◌, ◌-◌, min, suc, List, [], ◌∷◌, ◌++◌, length, take, drop, get_or, refl, sym, ◌∙◌, ap, subst, true≢false, arith}
use Rattle.std.specs.Prelude.{codes, Some, ⊤}
use Rattle.std.specs.List.{list_all, list_any}
use Rattle.std.specs.Fmt.{decimal}
use Rattle.std.proofs.lemmas.Bool.{and_parts, or_parts}
use Rattle.std.proofs.lemmas.Fmt.{decimal_injective}
use Rattle.std.proofs.lemmas.List.{append_cancel_left, take_more, take-append-drop, length-take-le}
use Rattle.std.proofs.lemmas.List.Folds.{list_any-append}
use Rattle.std.proofs.Math.Seq.{drop-cons, take-length}
use Rattle.svn_types.specs.Names.{Path}
use Rattle.svn_types.specs.Paths.{path_eq}
use Rattle.svn_types.proofs.NameLemmas.{Name}
use Rattle.svn_types.proofs.PathLemmas.{same_path, path_eq-symm}
use Rattle.svn_wcrows.specs.declared.work.Work.{Work}
use Rattle.svn_wcrows.specs.declared.work.Work.TheVariants.{MakeDirectory, InstallFile, RemoveFile, RemoveDirectory}
use Rattle.svn_folder.specs.declared.entry.Entry.TheVariants.{Directory}
use Rattle.svn_folder.specs.States.{Seen}
use Rattle.svn_disk.specs.Places.{is_outside}
use Rattle.svn_disk.specs.Plans.{path_of}
use Rattle.svn_disk.specs.Ends.{own_place, files_of, IsPlaced, ArePlaced, AreDistinct, IsDirectoryOf, AreDirectories, IsMoved, IsSame, AreMade, IsOneMade, IsOnePlaced, AreOthers, AreDone}

abbrev svn : Name
svn = codes ".svn"

-- ---- paths that are apart

-- what is outside of the administrative folder isn't in it
pub other_outside : (p q : Path) → is_outside p ≡ true → is_outside q ≡ false → path_eq p q ≡ false
other_outside p q h k = by (path_eq p q) refl
  where
    by : (b : Bool) → path_eq p q ≡ b → b ≡ false
    by false e = refl
    by true e = absurd (true≢false (sym h ∙ ap is_outside (same_path p q e) ∙ k))

pub own_off : (i : ℕ) (p : Path) → is_outside p ≡ true → path_eq (own_place svn i) p ≡ false
own_off i p h = path_eq-symm (own_place svn i) p ∙ other_outside p (own_place svn i) h refl

name_in : Path → List ℕ
name_in (a ∷ b ∷ c ∷ p) = c
name_in _ = []

-- two files have two names of their own
pub own_apart : (n : Name) (i j : ℕ) → i < 2 ^ 64 → j < 2 ^ 64 → i ≢ j → path_eq (own_place n i) (own_place n j) ≡ false
unfolding name_in
own_apart n i j low high other = by (path_eq (own_place n i) (own_place n j)) refl
  where
    by : (b : Bool) → path_eq (own_place n i) (own_place n j) ≡ b → b ≡ false
    by false e = refl
    by true e =
        absurd (other (decimal_injective i j low high
        (append_cancel_left (codes "new-") (decimal i) (decimal j) (ap name_in (same_path (own_place n i) (own_place n j) e)))))

-- ---- of each item

-- of the path of each item
abbrev pub EachPath : (Path → Type 0) → List Work → Type 0
EachPath P [] = ⊤
EachPath P (item ∷ work) = P (path_of item) × EachPath P work

pub each_path : (P Q : Path → Type 0) → ((p : Path) → P p → Q p) → (work : List Work) → EachPath P work → EachPath Q work
each_path P Q f [] h = tt
each_path P Q f (item ∷ work) h = (f (path_of item) h.0, each_path P Q f work h.1)

pub each_both : (P Q : Path → Type 0) (work : List Work) → EachPath P work → EachPath Q work → EachPath (λ p. P p × Q p) work
each_both P Q [] h k = tt
each_both P Q (item ∷ work) h k = ((h.0, k.0), each_both P Q work h.1 k.1)

pub each_all : (f : Path → Bool) (work : List Work) → list_all (λ item. f (path_of item)) work ≡ true → EachPath (λ p. f p ≡ true) work
each_all f [] h = tt
each_all f (item ∷ work) h =
    let parts = and_parts (f (path_of item)) (list_all (λ x. f (path_of x)) work) h in (parts.0, each_all f work parts.1)

pub each_none : (f : Path → Bool) (work : List Work) → list_any (λ item. f (path_of item)) work ≡ false → EachPath (λ p. f p ≡ false) work
each_none f [] h = tt
each_none f (item ∷ work) h =
    let parts = or_parts (f (path_of item)) (list_any (λ x. f (path_of x)) work) h in (parts.0, each_none f work parts.1)

pub none_each : (f : Path → Bool) (work : List Work) → EachPath (λ p. f p ≡ false) work → list_any (λ item. f (path_of item)) work ≡ false
none_each f [] h = refl
none_each f (item ∷ work) h = ap (λ b. b || list_any (λ x. f (path_of x)) work) h.0 ∙ none_each f work h.1

pub each_of_all : (P : Path → Type 0) → ((p : Path) → P p) → (work : List Work) → EachPath P work
each_of_all P f [] = tt
each_of_all P f (item ∷ work) = (f (path_of item), each_of_all P f work)

each_first : (P : Path → Type 0) (some more : List Work) → EachPath P (some ++ more) → EachPath P some × EachPath P more
each_first P [] more h = (tt, h)
each_first P (item ∷ some) more h = let parts = each_first P some more h.1 in ((h.0, parts.0), parts.1)

-- an item's path is none of those of the others
pub distinct_from : (some : List Work) (x : Work) (rest : List Work) → AreDistinct (some ++ x ∷ rest)
    → EachPath (λ q. path_eq (path_of x) q ≡ false) some × EachPath (λ q. path_eq (path_of x) q ≡ false) rest
distinct_from [] x rest h = (tt, each_none (path_eq (path_of x)) rest h.0)
distinct_from (y ∷ some) x rest h =
    let parts = distinct_from some x rest h.1 in
    let here = each_first (λ q. path_eq (path_of y) q ≡ false) some (x ∷ rest) (each_none (path_eq (path_of y)) (some ++ x ∷ rest) h.0) in
    ((path_eq-symm (path_of x) (path_of y) ∙ here.1.0, parts.0), parts.1)

-- ---- what stays at the paths of work

dir_kept : (item : Work) (b c : Seen) → c (path_of item) ≡ b (path_of item) → IsDirectoryOf item b → IsDirectoryOf item c
dir_kept (MakeDirectory p) b c same is = same ∙ is
dir_kept (InstallFile p) b c same is = tt
dir_kept (RemoveFile p) b c same is = tt
dir_kept (RemoveDirectory p) b c same is = tt

pub dirs_kept : (work : List Work) (b c : Seen) → EachPath (λ q. c q ≡ b q) work → AreDirectories work b → AreDirectories work c
dirs_kept [] b c same are = tt
dirs_kept (item ∷ work) b c same are = (dir_kept item b c same.0 are.0, dirs_kept work b c same.1 are.1)

placed_one_kept : (n : Name) (i : ℕ) (item : Work) (a b c : Seen) → c (path_of item) ≡ b (path_of item) → IsPlaced n i item a b → IsPlaced n i item a c
placed_one_kept n i (MakeDirectory p) a b c same is = same ∙ is
placed_one_kept n i (InstallFile p) a b c same is = same ∙ is
placed_one_kept n i (RemoveFile p) a b c same is = tt
placed_one_kept n i (RemoveDirectory p) a b c same is = tt

pub placed_kept : (n : Name) (i : ℕ) (work : List Work) (a b c : Seen) → EachPath (λ q. c q ≡ b q) work → ArePlaced n i work a b → ArePlaced n i work a c
placed_kept n i [] a b c same are = tt
placed_kept n i (item ∷ work) a b c same are =
    (placed_one_kept n i item a b c same.0 are.0, placed_kept n (i + files_of item) work a b c same.1 are.1)

placed_one_from : (n : Name) (i : ℕ) (item : Work) (a b c : Seen) → ((j : ℕ) → b (own_place n j) ≡ a (own_place n j)) → IsPlaced n i item b c → IsPlaced n i item a c
placed_one_from n i (MakeDirectory p) a b c same is = is
placed_one_from n i (InstallFile p) a b c same is = is ∙ same i
placed_one_from n i (RemoveFile p) a b c same is = tt
placed_one_from n i (RemoveDirectory p) a b c same is = tt

pub placed_from : (n : Name) (i : ℕ) (work : List Work) (a b c : Seen) → ((j : ℕ) → b (own_place n j) ≡ a (own_place n j)) → ArePlaced n i work b c → ArePlaced n i work a c
placed_from n i [] a b c same are = tt
placed_from n i (item ∷ work) a b c same are =
    (placed_one_from n i item a b c same are.0, placed_from n (i + files_of item) work a b c same are.1)

-- ---- directories are made

-- a path that no item is about is one that no earlier item is about, nor the last
pub none_before : (q : Path) (some : List Work) (x : Work) → list_any (λ item. path_eq (path_of item) q) (some ++ x ∷ []) ≡ false
    → (list_any (λ item. path_eq (path_of item) q) some ≡ false) × (path_eq (path_of x) q ≡ false)
none_before q some x none =
    let parts = or_parts (list_any (λ item. path_eq (path_of item) q) some) (list_any (λ item. path_eq (path_of item) q) (x ∷ []))
    (sym (list_any-append (λ item. path_eq (path_of item) q) some (x ∷ [])) ∙ none) in
    (parts.0, (or_parts (path_eq (path_of x) q) false parts.1).0)

dirs_more : (some : List Work) (x : Work) (b : Seen) → AreDirectories some b → IsDirectoryOf x b → AreDirectories (some ++ x ∷ []) b
dirs_more [] x b are is = (is, tt)
dirs_more (item ∷ some) x b are is = (are.0, dirs_more some x b are.1 is)

-- a directory stays one while another one is made
one_stays : (item x : Work) (b c : Seen) → IsOneMade x b c → IsDirectoryOf item b → IsDirectoryOf item c
one_stays (MakeDirectory q) (MakeDirectory p) b c made is = by (path_eq p q) refl
  where
    by : (t : Bool) → path_eq p q ≡ t → c q ≡ Some Directory
    by true e = ap c (sym (same_path p q e)) ∙ made.here
    by false e = made.others q e ∙ is
one_stays (MakeDirectory q) (InstallFile p) b c made is = made q ∙ is
one_stays (MakeDirectory q) (RemoveFile p) b c made is = made q ∙ is
one_stays (MakeDirectory q) (RemoveDirectory p) b c made is = made q ∙ is
one_stays (InstallFile q) x b c made is = tt
one_stays (RemoveFile q) x b c made is = tt
one_stays (RemoveDirectory q) x b c made is = tt

all_stay : (some : List Work) (x : Work) (b c : Seen) → IsOneMade x b c → AreDirectories some b → AreDirectories some c
all_stay [] x b c made are = tt
all_stay (item ∷ some) x b c made are = (one_stays item x b c made are.0, all_stay some x b c made are.1)

one_made : (x : Work) (b c : Seen) → IsOneMade x b c → IsDirectoryOf x c × ((q : Path) → path_eq (path_of x) q ≡ false → c q ≡ b q)
one_made (MakeDirectory p) b c made = (made.here, made.others)
one_made (InstallFile p) b c made = (tt, λ q other. made q)
one_made (RemoveFile p) b c made = (tt, λ q other. made q)
one_made (RemoveDirectory p) b c made = (tt, λ q other. made q)

pub made_none : (a : Seen) → AreMade [] a a
made_none a = record { made = tt; others = λ q other. refl }

pub made_more : (some : List Work) (x : Work) (a b c : Seen) → AreMade some a b → IsOneMade x b c → AreMade (some ++ x ∷ []) a c
made_more some x a b c first made =
    let here = one_made x b c made in
    record {
      made = dirs_more some x c (all_stay some x b c made first.made) here.0;
      others = λ q other. let parts = none_before q some x other in here.1 q parts.1 ∙ first.others q parts.0;
    }

-- ---- files get their places

-- how many files work places
abbrev pub count_files : List Work → ℕ
count_files [] = 0
count_files (item ∷ work) = files_of item + count_files work

count_more : (some : List Work) (x : Work) → count_files (some ++ x ∷ []) ≡ count_files some + files_of x
count_more [] x = omega arith
count_more (item ∷ some) x = let e = count_more some x in omega (arith, e)

files_at_most : (item : Work) → files_of item ≤ 1
files_at_most (MakeDirectory p) = omega arith
files_at_most (InstallFile p) = omega arith
files_at_most (RemoveFile p) = omega arith
files_at_most (RemoveDirectory p) = omega arith

pub count_at_most : (work : List Work) → count_files work ≤ length work
count_at_most [] = omega arith
count_at_most (item ∷ work) = let e = count_at_most work in let k = files_at_most item in omega (arith, e, k)

placed_next : (n : Name) (i : ℕ) (some : List Work) (x : Work) (a c : Seen) → ArePlaced n i some a c → IsPlaced n (i + count_files some) x a c
    → ArePlaced n i (some ++ x ∷ []) a c
placed_next n i [] x a c are is = (subst (λ (j : ℕ). IsPlaced n j x a c) (omega arith) is, tt)
placed_next n i (item ∷ some) x a c are is = (
  are.0,
  placed_next n (i + files_of item) some x a c are.1 (subst (λ (j : ℕ). IsPlaced n j x a c) (omega arith) is),
)

pub placed_parts : (n : Name) (i : ℕ) (some more : List Work) (a c : Seen) → ArePlaced n i (some ++ more) a c
    → ArePlaced n i some a c × ArePlaced n (i + count_files some) more a c
placed_parts n i [] more a c are = (tt, subst (λ (j : ℕ). ArePlaced n j more a c) (omega arith) are)
placed_parts n i (item ∷ some) more a c are =
    let parts = placed_parts n (i + files_of item) some more a c are.1 in
    ((are.0, parts.0), subst (λ (j : ℕ). ArePlaced n j more a c) (omega arith) parts.1)

-- some of the files have their places, and the others wait under their own names
pub record HasPlaced (some rest : List Work) (a b : Seen) : Type 0 where
  pub placed : ArePlaced svn 0 some a b
  pub directories : AreDirectories rest b
  pub waiting : (j : ℕ) → count_files some ≤ j → j < 2 ^ 64 → b (own_place svn j) ≡ a (own_place svn j)
  pub others : AreOthers some a b

pub placed_none : (work : List Work) (a : Seen) → AreDirectories work a → HasPlaced [] work a a
placed_none work a are = record { placed = tt; directories = are; waiting = λ j low high. refl; others = λ q outside none. refl }

module _ (some rest : List Work) (x : Work) (a b c : Seen) (first : HasPlaced some (x ∷ rest) a b) where
  -- nothing is done
  same_placed : IsSame b c → IsPlaced svn (0 + count_files some) x a c → files_of x ≡ 0 → HasPlaced (some ++ x ∷ []) rest a c
  same_placed same is none = record {
    placed = placed_next svn 0 some x a c (placed_kept svn 0 some a b c (each_of_all (λ q. c q ≡ b q) same some) first.placed) is;
    directories = dirs_kept rest b c (each_of_all (λ q. c q ≡ b q) same rest) first.directories.1;
    waiting = λ j low high. same (own_place svn j) ∙ first.waiting j (let e = count_more some x in omega (arith, e, none, low)) high;
    others = λ q outside apart. same q ∙ first.others q outside (none_before q some x apart).0;
  }

module _ (some rest : List Work) (p : Path) (a b c : Seen) (first : HasPlaced some (InstallFile p ∷ rest) a b)
    (distinct : AreDistinct (some ++ InstallFile p ∷ rest)) (outside : list_all (λ item. is_outside (path_of item)) (some ++ InstallFile p ∷ rest) ≡ true)
    (small : count_files some < 2 ^ 64) (moved : IsMoved (own_place svn (count_files some)) p b c) where
  apart_path : (q : Path) → (path_eq p q ≡ false) × (is_outside q ≡ true) → c q ≡ b q
  apart_path q h = moved.others q (own_off (count_files some) q h.1) h.0

  each_outside : EachPath (λ q. is_outside q ≡ true) some × EachPath (λ q. is_outside q ≡ true) (InstallFile p ∷ rest)
  each_outside = each_first (λ q. is_outside q ≡ true) some (InstallFile p ∷ rest) (each_all is_outside (some ++ InstallFile p ∷ rest) outside)

  each_distinct : EachPath (λ q. path_eq p q ≡ false) some × EachPath (λ q. path_eq p q ≡ false) rest
  each_distinct = distinct_from some (InstallFile p) rest distinct

  some_same : EachPath (λ q. c q ≡ b q) some
  some_same =
      each_path (λ q. (path_eq p q ≡ false) × (is_outside q ≡ true)) (λ q. c q ≡ b q) apart_path some
      (each_both (λ q. path_eq p q ≡ false) (λ q. is_outside q ≡ true) some each_distinct.0 each_outside.0)

  rest_same : EachPath (λ q. c q ≡ b q) rest
  rest_same =
      each_path (λ q. (path_eq p q ≡ false) × (is_outside q ≡ true)) (λ q. c q ≡ b q) apart_path rest
      (each_both (λ q. path_eq p q ≡ false) (λ q. is_outside q ≡ true) rest each_distinct.1 each_outside.1.1)

  waits : (j : ℕ) → count_files (some ++ InstallFile p ∷ []) ≤ j → j < 2 ^ 64 → c (own_place svn j) ≡ b (own_place svn j)
  waits j low high =
      let e = count_more some (InstallFile p) in
      let other : count_files some ≢ j = λ same. omega (arith, e, low, same) in
      moved.others (own_place svn j) (own_apart svn (count_files some) j small high other)
      (other_outside p (own_place svn j) each_outside.1.0 refl)

  moved_placed : HasPlaced (some ++ InstallFile p ∷ []) rest a c
  moved_placed = record {
    placed = placed_next svn 0 some (InstallFile p) a c (placed_kept svn 0 some a b c some_same first.placed)
        (subst (λ (j : ℕ). c p ≡ a (own_place svn j)) (omega arith)
        (moved.here ∙ first.waiting (count_files some) (omega arith) small));
    directories = dirs_kept rest b c rest_same first.directories.1;
    waiting = λ j low high.
        waits j low high ∙ first.waiting j (let e = count_more some (InstallFile p) in omega (arith, e, low)) high;
    others = λ q out apart.
        let parts = none_before q some (InstallFile p) apart in apart_path q (parts.1, out) ∙ first.others q out parts.0;
  }

pub placed_more : (some rest : List Work) (x : Work) (a b c : Seen) → AreDistinct (some ++ x ∷ rest)
    → list_all (λ item. is_outside (path_of item)) (some ++ x ∷ rest) ≡ true → count_files some < 2 ^ 64 → HasPlaced some (x ∷ rest) a b
    → IsOnePlaced svn (count_files some) x b c → HasPlaced (some ++ x ∷ []) rest a c
placed_more some rest (MakeDirectory p) a b c distinct outside small first one =
    same_placed some rest (MakeDirectory p) a b c first one (one p ∙ first.directories.0) refl
placed_more some rest (InstallFile p) a b c distinct outside small first one = moved_placed some rest p a b c first distinct outside small one
placed_more some rest (RemoveFile p) a b c distinct outside small first one = same_placed some rest (RemoveFile p) a b c first one tt refl
placed_more some rest (RemoveDirectory p) a b c distinct outside small first one = same_placed some rest (RemoveDirectory p) a b c first one tt refl

-- ---- by the index of the next item

split_at : (work : List Work) (k : ℕ) (x : Work) → k < length work → x ≡ get_or work k x
    → (take (k + 1) work ≡ take k work ++ x ∷ []) × (drop k work ≡ x ∷ drop (k + 1) work)
split_at work k x below is = (
  take_more work k x below ∙ ap (λ (y : Work). take k work ++ y ∷ []) (sym is),
  drop-cons work k x below ∙ ap (λ (y : Work). y ∷ drop (suc k) work) (sym is) ∙ ap (λ (j : ℕ). x ∷ drop j work) next,
)
  where
    next : suc k ≡ k + 1
    next = omega arith

pub count_step : (work : List Work) (k : ℕ) (x : Work) → k < length work → x ≡ get_or work k x
    → count_files (take (k + 1) work) ≡ count_files (take k work) + files_of x
count_step work k x below is = ap count_files (split_at work k x below is).0 ∙ count_more (take k work) x

pub count_below : (work : List Work) (k : ℕ) → k ≤ length work → count_files (take k work) ≤ k
count_below work k below = let e = count_at_most (take k work) in let l = length-take-le k work below in omega (arith, e, l)

pub placed_step : (work : List Work) (k : ℕ) (x : Work) (a b c : Seen) → k < length work → x ≡ get_or work k x → AreDistinct work
    → list_all (λ item. is_outside (path_of item)) work ≡ true → count_files (take k work) < 2 ^ 64 → HasPlaced (take k work) (drop k work) a b
    → IsOnePlaced svn (count_files (take k work)) x b c → HasPlaced (take (k + 1) work) (drop (k + 1) work) a c
placed_step work k x a b c below is distinct outside small first one =
    let parts = split_at work k x below is in
    let whole : work ≡ take k work ++ x ∷ drop (k + 1) work = sym (take-append-drop k work) ∙ ap (λ (ys : List Work). take k work ++ ys) parts.1 in
    subst (λ (xs : List Work). HasPlaced xs (drop (k + 1) work) a c) (sym parts.0)
    (placed_more (take k work) (drop (k + 1) work) x a b c (subst AreDistinct whole distinct)
    (ap (list_all (λ item. is_outside (path_of item))) (sym whole) ∙ outside) small
    (subst (λ (ys : List Work). HasPlaced (take k work) ys a b) parts.1 first) one)

-- the step is said by another number and another name
pub placed_step_by : (work : List Work) (k : ℕ) (x : Work) (n : Name) (i : ℕ) (a b c : Seen) → n ≡ svn → i ≡ count_files (take k work) → k < length work
    → x ≡ get_or work k x → AreDistinct work → list_all (λ item. is_outside (path_of item)) work ≡ true → i < 2 ^ 64
    → HasPlaced (take k work) (drop k work) a b → IsOnePlaced n i x b c → HasPlaced (take (k + 1) work) (drop (k + 1) work) a c
placed_step_by work k x n i a b c name number below is distinct outside small first one =
    placed_step work k x a b c below is distinct outside (subst (λ (j : ℕ). j < 2 ^ 64) number small) first
    (subst (λ (j : ℕ). IsOnePlaced svn j x b c) number (subst (λ (m : Name). IsOnePlaced m i x b c) name one))

pub count_next : (work : List Work) (k number next files : ℕ) (x : Work) → k < length work → x ≡ get_or work k x → number ≡ count_files (take k work)
    → files ≡ files_of x → k < 2 ^ 64 - 1 → next ≡ min (number + files) (2 ^ 64 - 1) → next ≡ count_files (take (k + 1) work)
count_next work k number next files x below is number_is files_are few next_is =
    let e = count_step work k x below is in
    let l = count_below work k (omega (arith, below)) in
    let m = files_at_most x in
    omega (arith, e, l, m, number_is, files_are, few, next_is)

pub all_placed : (work : List Work) (k : ℕ) (a b : Seen) → k ≡ length work → HasPlaced (take k work) (drop k work) a b → ArePlaced svn 0 work a b
all_placed work k a b is first =
    subst (λ (xs : List Work). ArePlaced svn 0 xs a b) (ap (λ j. take j work) is ∙ take-length work) first.placed

-- ---- all of it

-- the directories were made, and then the files got their places
pub all_done : (work : List Work) (a b c : Seen) → list_all (λ item. is_outside (path_of item)) work ≡ true → AreMade work a b
    → (AreDirectories work b → ArePlaced svn 0 work b c) → ArePlaced svn 0 work a c
all_done work a b c outside made placed =
    placed_from svn 0 work a b c
    (λ j. made.others (own_place svn j)
    (none_each (λ p. path_eq p (own_place svn j)) work
    (each_path (λ p. is_outside p ≡ true) (λ p. path_eq p (own_place svn j) ≡ false) (λ p h. other_outside p (own_place svn j) h refl) work
    (each_all is_outside work outside))))
    (placed made.made)

-- the same with what is elsewhere
pub all_placed_done : (work : List Work) (k : ℕ) (a b : Seen) → k ≡ length work → HasPlaced (take k work) (drop k work) a b → AreDone svn work a b
all_placed_done work k a b is first = record {
  placed = all_placed work k a b is first;
  others = subst (λ (xs : List Work). AreOthers xs a b) (ap (λ j. take j work) is ∙ take-length work) first.others;
}

pub made_done : (work : List Work) (a b c : Seen) → list_all (λ item. is_outside (path_of item)) work ≡ true → AreMade work a b
    → (AreDirectories work b → AreDone svn work b c) → AreDone svn work a c
made_done work a b c outside made done =
    let all = done made.made in
    record {
      placed = all_done work a b c outside made (λ are. all.placed);
      others = λ q out none. all.others q out none ∙ made.others q none;
    }

pub done_same : (work : List Work) (a b c : Seen) → ArePlaced svn 0 work a b → IsSame b c → ArePlaced svn 0 work a c
done_same work a b c placed same = placed_kept svn 0 work a b c (each_of_all (λ q. c q ≡ b q) same work) placed

pub done_still : (work : List Work) (a b c : Seen) → AreDone svn work a b → IsSame b c → AreDone svn work a c
done_still work a b c done same =
    record { placed = done_same work a b c done.placed same; others = λ q out none. same q ∙ done.others q out none }

-- what changes is in the administrative folder
abbrev pub IsSameOutside : Seen → Seen → Type 0
IsSameOutside before left = (q : Path) → is_outside q ≡ true → left q ≡ before q

pub done_outside : (work : List Work) (a b c : Seen) → list_all (λ item. is_outside (path_of item)) work ≡ true → ArePlaced svn 0 work a b
    → IsSameOutside b c → ArePlaced svn 0 work a c
done_outside work a b c outside placed same =
    placed_kept svn 0 work a b c (each_path (λ q. is_outside q ≡ true) (λ q. c q ≡ b q) same work (each_all is_outside work outside)) placed
