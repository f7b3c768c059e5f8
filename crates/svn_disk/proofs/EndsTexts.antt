-- Files under names of their own, which stay as their pristine texts are while others come.
use Rattle.std.proofs.Common.{◌≡◌, ◌≢◌, Bool, true, false, ◌&&◌, ℕ, ◌+◌, ◌-◌, ◌≤◌, ◌<◌, ◌^◌, suc, List, [], ◌∷◌, ◌++◌, length, drop, refl, sym, ◌∙◌, ap, subst, true≢false, arith, append_assoc, append-nil}
use Rattle.std.specs.Prelude.{bytes_eq, codes, cond, min, Option, Some, None, is_some, Result, Ok, Err, OnOk, ⊤}
use Rattle.std.specs.BTreeMap.{is_at}
use Rattle.std.specs.Cmp.Lexicographic.{slice_cmp}
use Rattle.std.specs.Fmt.{decimal}
use Rattle.std.specs.Map.{lookup}
use Rattle.std.specs.Ordering.{nat_cmp}
use Rattle.std.proofs.lemmas.List.{append_cancel_left}
use Rattle.std.proofs.lemmas.Slice.Eq.{bytes_eq-Decides}
use Rattle.hex.specs.Hex.{decode_sized}
use Rattle.hex.specs.declared.error.FromHexError.{FromHexError}
use Rattle.svn_types.specs.Names.{Path}
use Rattle.svn_types.specs.Paths.{path_eq, is_within}
use Rattle.svn_types.proofs.NameLemmas.{Name}
use Rattle.svn_types.proofs.PathLemmas.{same_path, is_within-same}
use Rattle.svn_digits.specs.Numbers.{number_of}
use Rattle.svn_digits.proofs.Decimals.{number_of_decimal}
use Rattle.svn_digits.specs.StandIns.{is_stand_in, stand_in}
use Rattle.svn_model.specs.declared.base_node.BaseNode.{BaseNode}
use Rattle.svn_model.specs.declared.base_node.BaseNode.TheVariants.{File as FileNode, Dir as DirNode, NotPresent}
use Rattle.svn_model.specs.Nodes.{is_dir}
use Rattle.svn_folder.specs.declared.entry.Entry.{Entry}
use Rattle.svn_folder.specs.States.{Seen, seen}
use Rattle.svn_disk.specs.Goes.{IsAlways, Took}
use Rattle.svn_folder.specs.Pasts.{Past, Shows}
use Rattle.svn_folder.specs.declared.entry.Mode.{Mode}
use Rattle.svn_folder.specs.declared.entry.Entry.TheVariants.{File}
use Rattle.svn_folder.specs.declared.step.Step.TheVariants.{Make}
use Rattle.svn_disk.specs.Places.{text_below, text_place, database_place}
use Rattle.svn_disk.specs.Plans.{text_of_node}
use Rattle.svn_disk.specs.Crashes.{OfText, EachText}
use Rattle.svn_disk.specs.Ends.{Turns, text_at, own_place, new_text_place, files_at, number_after, HasCopy, IsCopied, AreCopied, StaysBut, CopiesText, IsSame, IsHeld, KeepsText, CopiesNode, IsPut}
use Rattle.svn_disk.proofs.TextPlaces.{same_place}
use Rattle.svn_disk.proofs.Ends.{turns_none, turns_more, turns_along, turns_when, took_turns, makes_put}
use Rattle.svn_disk.proofs.EndsWork.{own_apart}

-- ---- paths of the administrative folder

and_false : (a b : Bool) → b ≡ false → (a && b) ≡ false
and_false true b h = h
and_false false b h = refl

-- by their second names
pub second_apart : (n k m : Name) (p q : Path) → bytes_eq k m ≡ false → path_eq (n ∷ k ∷ p) (n ∷ m ∷ q) ≡ false
second_apart n k m p q h = and_false (bytes_eq n n) (bytes_eq k m && path_eq p q) (ap (λ b. b && path_eq p q) h)

-- a name that is a number isn't that of a text
number_apart : (i : ℕ) → i < 2 ^ 64 → bytes_eq (codes "new-text") (codes "new-" ++ decimal i) ≡ false
number_apart i small = by (bytes_eq (codes "new-text") (codes "new-" ++ decimal i)) refl
  where
    is_number : Option ℕ → Bool
    is_number found = is_some found

    by : (b : Bool) → bytes_eq (codes "new-text") (codes "new-" ++ decimal i) ≡ b → b ≡ false
    by false e = refl
    by true e =
        let same : codes "text" ≡ decimal i =
        append_cancel_left (codes "new-") (codes "text") (decimal i) ((bytes_eq-Decides (codes "new-text") (codes "new-" ++ decimal i)).0 e) in
        absurd (true≢false (sym (ap is_some (number_of_decimal i small)) ∙ ap (λ x. is_some (number_of x)) (sym same)))

pub new_text_own : (n : Name) (i : ℕ) → i < 2 ^ 64 → path_eq (new_text_place n) (own_place n i) ≡ false
new_text_own n i small =
    and_false (bytes_eq n n) (bytes_eq (codes "tmp") (codes "tmp") && (bytes_eq (codes "new-text") (codes "new-" ++ decimal i) && true))
    (ap (λ b. b && true) (number_apart i small))

pub text_own : (n : Name) (name : List ℕ) (i : ℕ) → path_eq (text_place n name) (own_place n i) ≡ false
text_own n name i = second_apart n (codes "pristine") (codes "tmp") (text_below name) ((codes "new-" ++ decimal i) ∷ []) refl

pub own_text : (n : Name) (name : List ℕ) (i : ℕ) → path_eq (own_place n i) (text_place n name) ≡ false
own_text n name i = second_apart n (codes "tmp") (codes "pristine") ((codes "new-" ++ decimal i) ∷ []) (text_below name) refl

pub new_text_text : (n : Name) (name : List ℕ) → path_eq (new_text_place n) (text_place n name) ≡ false
new_text_text n name = second_apart n (codes "tmp") (codes "pristine") (codes "new-text" ∷ []) (text_below name) refl

-- two texts have two places
pub texts_apart : (n : Name) (name t : List ℕ) → is_stand_in name ≡ true → t ≢ name → path_eq (text_place n t) (text_place n name) ≡ false
texts_apart n name t stands other = by (path_eq (text_place n t) (text_place n name)) refl
  where
    by : (b : Bool) → path_eq (text_place n t) (text_place n name) ≡ b → b ≡ false
    by false e = refl
    by true e =
        let same : text_place n t ≡ text_place n name = same_path (text_place n t) (text_place n name) e in
        absurd (other (sym (same_place n name t stands
        (ap (λ (p : Path). is_within (text_place n name) p) same ∙ is_within-same (text_place n name)))))

-- ---- one file

there_if_text : (found : Option Entry) → is_some (text_at found) ≡ true → is_some found ≡ true
there_if_text None h = absurd (true≢false (sym h))
there_if_text (Some e) h = refl

-- what is at both places stays, and so does the copy
copy_same : (n : Name) (i : ℕ) (name : List ℕ) (a b : Seen) → b (own_place n i) ≡ a (own_place n i) → b (text_place n name) ≡ a (text_place n name)
    → HasCopy n i name a → HasCopy n i name b
copy_same n i name a b own text copy = record {
  stands = copy.stands;
  there = ap (λ (e : Option Entry). is_some (text_at e)) text ∙ copy.there;
  same = ap text_at own ∙ copy.same ∙ sym (ap text_at text);
}

own_there : (n : Name) (i : ℕ) (name : List ℕ) (a : Seen) → HasCopy n i name a → is_some (a (own_place n i)) ≡ true
own_there n i name a copy = there_if_text (a (own_place n i)) (ap is_some copy.same ∙ copy.there)

-- while another text is kept
copy_kept : (n : Name) (i : ℕ) (name t : List ℕ) (a b : Seen) → i < 2 ^ 64 → t ≢ name → StaysBut (new_text_place n) (text_place n t) a b
    → HasCopy n i name a → HasCopy n i name b
copy_kept n i name t a b small other stays copy =
    copy_same n i name a b (stays (own_place n i) (own_there n i name a copy) (new_text_own n i small) (text_own n t i))
    (stays (text_place n name) (there_if_text (a (text_place n name)) copy.there) (new_text_text n name) (texts_apart n name t copy.stands other)) copy

pub copy_stays : (n : Name) (sizes : List (List ℕ × ℕ)) (i : ℕ) (name t : List ℕ) (a b : Seen) → i < 2 ^ 64 → KeepsText n sizes t a b → IsHeld sizes name
    → HasCopy n i name a → HasCopy n i name b
copy_stays n sizes i name t a b small keeps held copy = by (bytes_eq t name) refl
  where
    by : (x : Bool) → bytes_eq t name ≡ x → HasCopy n i name b
    by true e =
        let same = keeps.again (subst (IsHeld sizes) (sym ((bytes_eq-Decides t name).0 e)) held) in
        copy_same n i name a b (same (own_place n i)) (same (text_place n name)) copy
    by false e = copy_kept n i name t a b small (λ same. true≢false (sym ((bytes_eq-Decides t name).1 same) ∙ e)) keeps.stays copy

-- while another file comes
copy_beside : (n : Name) (i j : ℕ) (name t : List ℕ) (a b : Seen) → i < 2 ^ 64 → j < i → CopiesText (text_place n t) (own_place n i) a b
    → HasCopy n j name a → HasCopy n j name b
copy_beside n i j name t a b small below copies copy =
    copy_same n j name a b
    (copies.others (own_place n j) (own_apart n i j small (let k : j < i = below in omega (arith, k, small)) (λ same. let k : j < i = below in omega (arith, k, same))))
    (copies.others (text_place n name) (own_text n name i)) copy

-- it comes itself
copy_comes : (n : Name) (i : ℕ) (t : List ℕ) (a b : Seen) → is_stand_in t ≡ true → CopiesText (text_place n t) (own_place n i) a b → HasCopy n i t b
copy_comes n i t a b stands copies =
    let same : b (text_place n t) ≡ a (text_place n t) = copies.others (text_place n t) (own_text n t i) in
    record {
      stands = stands;
      there = ap (λ (e : Option Entry). is_some (text_at e)) same ∙ copies.there;
      same = copies.same ∙ sym (ap text_at same);
    }

-- a text is kept, and its file comes
pub file_comes : (n : Name) (sizes : List (List ℕ × ℕ)) (i r : ℕ) (q : Path) (t : List ℕ) (ps : List (List ℕ × List ℕ)) (a b c : Seen) → i < 2 ^ 64 → is_stand_in t ≡ true
    → KeepsText n sizes t a b → CopiesText (text_place n t) (own_place n i) b c → CopiesNode n i (IsHeld sizes) (FileNode r q t ps) a c
file_comes n sizes i r q t ps a b c small stands keeps copies = record {
  earlier = λ j name below held copy.
      copy_beside n i j name t b c small below copies
      (copy_stays n sizes j name t a b (let k : j < i = below in omega (arith, k, small)) keeps held copy);
  comes = copy_comes n i t b c stands copies;
}

-- the same where all texts stay
pub file_copied : (n : Name) (P : List ℕ → Type 0) (i r : ℕ) (q : Path) (t : List ℕ) (ps : List (List ℕ × List ℕ)) (a b : Seen) → i < 2 ^ 64 → is_stand_in t ≡ true
    → CopiesText (text_place n t) (own_place n i) a b → CopiesNode n i P (FileNode r q t ps) a b
file_copied n P i r q t ps a b small stands copies =
    record { earlier = λ j name below held copy. copy_beside n i j name t a b small below copies copy; comes = copy_comes n i t a b stands copies }

-- ---- all files of some nodes

abbrev pub count_at : List (Path × BaseNode) → ℕ
count_at [] = 0
count_at (entry ∷ nodes) = files_at entry.1 + count_at nodes

pub count_at_most : (nodes : List (Path × BaseNode)) → count_at nodes ≤ length nodes
count_at_most [] = omega arith
count_at_most (entry ∷ nodes) = let e = count_at_most nodes in let k = at_most entry.1 in omega (arith, e, k)
  where
    at_most : (node : BaseNode) → files_at node ≤ 1
    at_most (FileNode r q t ps) = omega arith
    at_most (DirNode r q c ps) = omega arith
    at_most NotPresent = omega arith

copied_one_kept : (n : Name) (P : List ℕ → Type 0) (i number : ℕ) (one node : BaseNode) (b c : Seen) → i + files_at one ≤ number
    → OfText P one → CopiesNode n number P node b c → IsCopied n i one b → IsCopied n i one c
copied_one_kept n P i number (FileNode r q t ps) node b c low held copies is =
    copies.earlier i t (let k : i + 1 ≤ number = low in omega (arith, k)) held is
copied_one_kept n P i number (DirNode r q c' ps) node b c low held copies is = tt
copied_one_kept n P i number NotPresent node b c low held copies is = tt

copied_kept : (n : Name) (P : List ℕ → Type 0) (i number : ℕ) (done : List (Path × BaseNode)) (node : BaseNode) (b c : Seen) → i + count_at done ≤ number
    → EachText P done → CopiesNode n number P node b c → AreCopied n i done b → AreCopied n i done c
copied_kept n P i number [] node b c low held copies are = tt
copied_kept n P i number (entry ∷ done) node b c low held copies are = (
  copied_one_kept n P i number entry.1 node b c (let k : i + (files_at entry.1 + count_at done) ≤ number = low in omega (arith, k)) held.0 copies are.0,
  copied_kept n P (i + files_at entry.1) number done node b c (let k : i + (files_at entry.1 + count_at done) ≤ number = low in omega (arith, k))
      held.1 copies are.1,
)

copied_next : (n : Name) (i : ℕ) (done : List (Path × BaseNode)) (p : Path) (node : BaseNode) (c : Seen) → AreCopied n i done c → IsCopied n (i + count_at done) node c
    → AreCopied n i (done ++ (p, node) ∷ []) c
copied_next n i [] p node c are is = (subst (λ (j : ℕ). IsCopied n j node c) (omega arith) is, tt)
copied_next n i (entry ∷ done) p node c are is =
    (are.0, copied_next n (i + files_at entry.1) done p node c are.1 (subst (λ (j : ℕ). IsCopied n j node c) (omega arith) is))

held_more : (P Q : List ℕ → Type 0) (done : List (Path × BaseNode)) (p : Path) (node : BaseNode)
    → ((name : List ℕ) → P name → Q name) → EachText P done → OfText Q node → EachText Q (done ++ (p, node) ∷ [])
held_more P Q [] p node wider held here = (here, tt)
held_more P Q (entry ∷ done) p node wider held here = (one entry.1 held.0, held_more P Q done p node wider held.1 here)
  where
    one : (x : BaseNode) → OfText P x → OfText Q x
    one (FileNode r q t ps) h = wider t h
    one (DirNode r q c ps) h = tt
    one NotPresent h = tt

count_more : (done : List (Path × BaseNode)) (p : Path) (node : BaseNode) → count_at (done ++ (p, node) ∷ []) ≡ count_at done + files_at node
count_more [] p node = omega arith
count_more (entry ∷ done) p node = let e = count_more done p node in omega (arith, e)

length_parts : (done rest all : List (Path × BaseNode)) → done ++ rest ≡ all → length done ≤ length all
length_parts [] rest all same = omega arith
length_parts (entry ∷ done) rest all same =
    let e = length_parts done rest (done ++ rest) refl in
    let k : length all ≡ suc (length (done ++ rest)) = sym (ap length same) in
    omega (arith, e, k)

-- some nodes have come, and others wait
pub record AreComing (n : Name) (P : List ℕ → Type 0) (files : ℕ) (rest all : List (Path × BaseNode)) (old new : Past) : Type 0 where
  pub done : List (Path × BaseNode)
  pub split : done ++ rest ≡ all
  pub count : files ≡ count_at done
  pub held : EachText P done
  pub ends : Turns (λ a b. AreCopied n 0 done b) old new

number_small : (node : BaseNode) (files : ℕ) → files < 2 ^ 64 - 1 → number_after node files ≡ files + files_at node
number_small (FileNode r q t ps) files small = omega (arith, small)
number_small (DirNode r q c ps) files small = omega arith
number_small NotPresent files small = omega arith

pub none_come : (n : Name) (P : List ℕ → Type 0) (files : ℕ) (rest all : List (Path × BaseNode)) (now : Past) → rest ≡ all → files ≡ 0
    → AreComing n P files rest all now now
none_come n P files rest all now same none =
    record { done = []; split = same; count = none; held = tt; ends = turns_none (λ a b. ⊤) now (λ a. tt) }

pub one_comes : (n : Name) (P Q : List ℕ → Type 0) (files next : ℕ) (rest after all : List (Path × BaseNode)) (p : Path) (node : BaseNode) (old now new : Past)
    → length all < 2 ^ 63 → rest ≡ (p, node) ∷ after → next ≡ number_after node files → OfText Q node
    → ((name : List ℕ) → P name → Q name) → Turns (CopiesNode n files P node) now new → AreComing n P files rest all old now
    → AreComing n Q next after all old new
one_comes n P Q files next rest after all p node old now new small here count held wider copies first =
    let whole : first.done ++ (p, node) ∷ after ≡ all = ap (λ xs. first.done ++ xs) (sym here) ∙ first.split in
    let few : count_at first.done ≤ length all =
    (let a = count_at_most first.done in let b = length_parts first.done ((p, node) ∷ after) all whole in omega (arith, a, b)) in
    let count_is : files ≡ count_at first.done = first.count in
    let number : number_after node files ≡ files + files_at node = number_small node files (omega (arith, count_is, few, small)) in
    record {
      done = first.done ++ (p, node) ∷ [];
      split = append_assoc first.done ((p, node) ∷ []) after ∙ whole;
      count = (let e = count_more first.done p node in omega (arith, count, e, count_is, number));
      held = held_more P Q first.done p node wider first.held held;
      ends = turns_more (λ a c. AreCopied n 0 (first.done ++ (p, node) ∷ []) c)
          (λ a b c done copy.
          copied_next n 0 first.done p node c
          (copied_kept n P 0 files first.done node b c (let k = first.count in omega (arith, k)) first.held copy done)
          (subst (λ (j : ℕ). IsCopied n j node c) (let k = first.count in omega (arith, k)) copy.comes))
          first.ends copies;
    }

pub all_came : (n : Name) (P : List ℕ → Type 0) (files : ℕ) (rest all : List (Path × BaseNode)) (old new : Past) → rest ≡ [] → AreComing n P files rest all old new
    → Turns (λ a b. AreCopied n 0 all b) old new
all_came n P files rest all old new none coming =
    subst (λ (xs : List (Path × BaseNode)). Turns (λ a b. AreCopied n 0 xs b) old new)
    (sym (append-nil coming.done) ∙ ap (λ (xs : List (Path × BaseNode)). coming.done ++ xs) (sym none) ∙ coming.split) coming.ends

-- ---- while nothing happens to the files and the texts

copied_one_same : (n : Name) (i : ℕ) (node : BaseNode) (b c : Seen) → ((j : ℕ) → c (own_place n j) ≡ b (own_place n j))
    → ((t : List ℕ) → c (text_place n t) ≡ b (text_place n t)) → IsCopied n i node b → IsCopied n i node c
copied_one_same n i (FileNode r q t ps) b c own text is = copy_same n i t b c (own i) (text t) is
copied_one_same n i (DirNode r q c' ps) b c own text is = tt
copied_one_same n i NotPresent b c own text is = tt

pub copied_same : (n : Name) (i : ℕ) (copy : List (Path × BaseNode)) (b c : Seen) → ((j : ℕ) → c (own_place n j) ≡ b (own_place n j))
    → ((t : List ℕ) → c (text_place n t) ≡ b (text_place n t)) → AreCopied n i copy b → AreCopied n i copy c
copied_same n i [] b c own text are = tt
copied_same n i (entry ∷ copy) b c own text are =
    (copied_one_same n i entry.1 b c own text are.0, copied_same n (i + files_at entry.1) copy b c own text are.1)

pub copied_still : (n : Name) (copy : List (Path × BaseNode)) (b c : Seen) → IsSame b c → AreCopied n 0 copy b → AreCopied n 0 copy c
copied_still n copy b c same are = copied_same n 0 copy b c (λ j. same (own_place n j)) (λ t. same (text_place n t)) are

-- the database is made
pub copied_put : (n : Name) (copy : List (Path × BaseNode)) (e : Option Entry) (b c : Seen) → IsPut (database_place n) e b c → AreCopied n 0 copy b → AreCopied n 0 copy c
copied_put n copy e b c put are =
    copied_same n 0 copy b c
    (λ j. put.others (own_place n j) (second_apart n (codes "wc.db") (codes "tmp") [] ((codes "new-" ++ decimal j) ∷ []) refl))
    (λ t. put.others (text_place n t) (second_apart n (codes "wc.db") (codes "pristine") [] (text_below t) refl)) are

-- ---- texts that are kept

-- the sum that a stand-in is of isn't found if its text isn't kept
pub held_found : (sizes : List (List ℕ × ℕ)) (name sum : List ℕ) → decode_sized (drop 6 name) 20 ≡ Ok sum → lookup (is_at (slice_cmp nat_cmp sum)) sizes ≡ None
    → IsHeld sizes name → ⊥
held_found sizes name sum of none (other, is, found) =
    true≢false (sym found ∙ ap (λ (x : List ℕ). is_some (lookup (is_at (slice_cmp nat_cmp x)) sizes)) (ok_same (decode_sized (drop 6 name) 20) other sum is of) ∙ ap is_some none)
  where
    in_ok : List ℕ → Result (List ℕ) FromHexError → List ℕ
    in_ok d (Ok x) = x
    in_ok d (Err e) = d

    ok_same : (found : Result (List ℕ) FromHexError) (a b : List ℕ) → found ≡ Ok a → found ≡ Ok b → a ≡ b
    ok_same found a b is of = ap (in_ok a) (sym is ∙ of)

-- ---- what has a text is copied

-- an entry with the text of a file is made
pub linked_turns : (p q : Path) (bytes : List ℕ) (e : Entry) (t : Option ℕ) (old new : Past) → text_at (Some e) ≡ Some (stand_in bytes)
    → IsAlways (λ s. (mode : Mode) × (seen s p ≡ Some (File bytes mode))) old → Took (Make q e t) old new → Turns (CopiesText p q) old new
linked_turns p q bytes e t old new same shows took =
    turns_when (λ s. (mode : Mode) × (seen s p ≡ Some (File bytes mode))) (IsPut q (Some e)) (CopiesText p q) old new shows
    (λ s b is put. record {
      there = ap (λ (x : Option Entry). is_some (text_at x)) is.1;
      same = ap text_at put.here ∙ same ∙ sym (ap text_at is.1);
      others = put.others;
    })
    (took_turns (IsPut q (Some e)) (Make q e t) old new (makes_put q e t) took)

pub copied_turns : (p q : Path) (bytes : List ℕ) (mode : Mode) (e : Entry) (t : Option ℕ) (old new : Past) → text_at (Some e) ≡ Some (stand_in bytes)
    → Shows old p (Some (File bytes mode)) → Took (Make q e t) old new → Turns (CopiesText p q) old new
copied_turns p q bytes mode e t old new same shows took =
    linked_turns p q bytes e t old new same (λ s steps is. (mode, sym (subst (λ (x : Past). Shows x p (Some (File bytes mode))) is shows))) took

-- ---- a node comes

in_some : List ℕ → Option (List ℕ) → List ℕ
in_some d (Some x) = x
in_some d None = d

module _ (node : BaseNode) (t : List ℕ) (is : Some t ≡ text_of_node node) where
  pub node_comes : (n : Name) (sizes : List (List ℕ × ℕ)) (i : ℕ) (a b c : Seen) → i < 2 ^ 64 → is_stand_in t ≡ true → KeepsText n sizes t a b
      → CopiesText (text_place n t) (own_place n i) b c → CopiesNode n i (IsHeld sizes) node a c
  unfolding in_some
  node_comes n sizes i a b c small stands keeps copies = by node is
    where
      by : (x : BaseNode) → Some t ≡ text_of_node x → CopiesNode n i (IsHeld sizes) x a c
      by (FileNode r q u ps) e =
          subst (λ (v : List ℕ). CopiesNode n i (IsHeld sizes) (FileNode r q v ps) a c) (ap (in_some t) e) (file_comes n sizes i r q t ps a b c small stands keeps copies)
      by (DirNode r q u ps) e = absurd (true≢false (ap is_some e))
      by NotPresent e = absurd (true≢false (ap is_some e))

  -- the same where all texts stay
  pub node_copied : (n : Name) (P : List ℕ → Type 0) (i : ℕ) (a b : Seen) → i < 2 ^ 64 → is_stand_in t ≡ true → CopiesText (text_place n t) (own_place n i) a b
      → CopiesNode n i P node a b
  unfolding in_some
  node_copied n P i a b small stands copies = by node is
    where
      by : (x : BaseNode) → Some t ≡ text_of_node x → CopiesNode n i P x a b
      by (FileNode r q u ps) e =
          subst (λ (v : List ℕ). CopiesNode n i P (FileNode r q v ps) a b) (ap (in_some t) e) (file_copied n P i r q t ps a b small stands copies)
      by (DirNode r q u ps) e = absurd (true≢false (ap is_some e))
      by NotPresent e = absurd (true≢false (ap is_some e))

  pub node_counts : files_at node ≡ 1
  node_counts = by node is
    where
      by : (x : BaseNode) → Some t ≡ text_of_node x → files_at x ≡ 1
      by (FileNode r q u ps) e = refl
      by (DirNode r q u ps) e = absurd (true≢false (ap is_some e))
      by NotPresent e = absurd (true≢false (ap is_some e))

  pub node_held : (P : List ℕ → Type 0) → P t → OfText P node
  unfolding in_some
  node_held P held = by node is
    where
      by : (x : BaseNode) → Some t ≡ text_of_node x → OfText P x
      by (FileNode r q u ps) e = subst P (ap (in_some t) e) held
      by (DirNode r q u ps) e = tt
      by NotPresent e = tt

-- one that is no file
module _ (node : BaseNode) (is : text_of_node node ≡ None) where
  pub none_copied : (n : Name) (P : List ℕ → Type 0) (i : ℕ) (a : Seen) → CopiesNode n i P node a a
  none_copied n P i a = by node is
    where
      by : (x : BaseNode) → text_of_node x ≡ None → CopiesNode n i P x a a
      by (FileNode r q u ps) e = absurd (true≢false (ap is_some e))
      by (DirNode r q u ps) e = record { earlier = λ j name below held copy. copy; comes = tt }
      by NotPresent e = record { earlier = λ j name below held copy. copy; comes = tt }

  pub none_counts : files_at node ≡ 0
  none_counts = by node is
    where
      by : (x : BaseNode) → text_of_node x ≡ None → files_at x ≡ 0
      by (FileNode r q u ps) e = absurd (true≢false (ap is_some e))
      by (DirNode r q u ps) e = refl
      by NotPresent e = refl

  pub none_held : (P : List ℕ → Type 0) → OfText P node
  none_held P = by node is
    where
      by : (x : BaseNode) → text_of_node x ≡ None → OfText P x
      by (FileNode r q u ps) e = absurd (true≢false (ap is_some e))
      by (DirNode r q u ps) e = tt
      by NotPresent e = tt

pub dir_no_text : (node : BaseNode) → is_dir (Some node) ≡ true → text_of_node node ≡ None
dir_no_text (FileNode r q u ps) h = absurd (true≢false (sym h))
dir_no_text (DirNode r q u ps) h = refl
dir_no_text NotPresent h = refl

-- nothing is done
pub none_turns : (n : Name) (P : List ℕ → Type 0) (i : ℕ) (node : BaseNode) (now : Past) → text_of_node node ≡ None → Turns (CopiesNode n i P node) now now
none_turns n P i node now is = turns_none (CopiesNode n i P node) now (none_copied node is n P i)

pub count_none : (node : BaseNode) (files : ℕ) → text_of_node node ≡ None → files ≡ number_after node files
count_none (FileNode r q u ps) files is = absurd (true≢false (ap is_some is))
count_none (DirNode r q u ps) files is = refl
count_none NotPresent files is = refl

pub count_one : (node : BaseNode) (files next : ℕ) (t : List ℕ) → Some t ≡ text_of_node node → next ≡ min (files + 1) (2 ^ 64 - 1) → next ≡ number_after node files
count_one (FileNode r q u ps) files next t is one = one
count_one (DirNode r q u ps) files next t is one = absurd (true≢false (ap is_some is))
count_one NotPresent files next t is one = absurd (true≢false (ap is_some is))

-- ---- the sums of texts

-- one that is found
pub held_there : (sizes : List (List ℕ × ℕ)) (name sum inside : List ℕ) → decode_sized (drop 6 name) 20 ≡ Ok sum → inside ≡ sum
    → is_some (lookup (is_at (slice_cmp nat_cmp inside)) sizes) ≡ true → IsHeld sizes name
held_there sizes name sum inside of same found = (inside, subst (λ (x : List ℕ). decode_sized (drop 6 name) 20 ≡ Ok x) (sym same) of, found)

-- one that comes
pub held_after : (v : ℕ) (b : Bool) (found : Option ℕ) → is_some found ≡ true → is_some (cond b (Some v) found) ≡ true
held_after v true found h = refl
held_after v false found h = h

-- the text wasn't kept before
pub newly_kept : (n : Name) (sizes : List (List ℕ × ℕ)) (name sum inside : List ℕ) (old new : Past) → decode_sized (drop 6 name) 20 ≡ Ok sum → inside ≡ sum
    → lookup (is_at (slice_cmp nat_cmp inside)) sizes ≡ None → Turns (StaysBut (new_text_place n) (text_place n name)) old new → Turns (KeepsText n sizes name) old new
newly_kept n sizes name sum inside old new of same none stays =
    turns_along (KeepsText n sizes name)
    (λ a b is. record {
      again = λ held. absurd (held_found sizes name inside (subst (λ (x : List ℕ). decode_sized (drop 6 name) 20 ≡ Ok x) (sym same) of) none held);
      stays = is;
    })
    stays

pub again_kept : (n : Name) (sizes : List (List ℕ × ℕ)) (name : List ℕ) (now : Past) → Turns (KeepsText n sizes name) now now
again_kept n sizes name now =
    turns_none (KeepsText n sizes name) now (λ a. record { again = λ held q. refl; stays = λ r some other apart. refl })

-- the files stay while the database is made
pub database_put : (n : Name) (copy : List (Path × BaseNode)) (p : Path) (e : Option Entry) (old new : Past) → p ≡ database_place n → Turns (IsPut p e) old new
    → Turns (λ a b. AreCopied n 0 copy a → AreCopied n 0 copy b) old new
database_put n copy p e old new at put =
    turns_along (λ a b. AreCopied n 0 copy a → AreCopied n 0 copy b) (λ a b is copied. copied_put n copy e a b is copied)
    (subst (λ (q : Path). Turns (IsPut q e) old new) at put)

pub on_ok : {T : Type 0} → {E : Type 0} → {P : Type 0} → (result : Result T E) → P → OnOk result P
on_ok (Ok value) h = h
on_ok (Err fault) h = tt
