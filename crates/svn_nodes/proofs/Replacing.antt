-- What is at a path and below is replaced: first there is room for all that comes, then what was there goes, and what comes takes its
-- place.
use Rattle.std.proofs.Common.{◌≡◌, Bool, true, false, cond, List, [], ◌∷◌, ◌++◌, refl, sym, ap, subst, ◌∙◌, Option, Some, None, true≢false}
use Rattle.std.proofs.lemmas.List.{append-nil}
use Rattle.std.proofs.lemmas.Option.{same_Some}
use Rattle.std.specs.Prelude.{◌&&◌, is_none}
use Rattle.std.specs.List.{list_any}
use Rattle.std.specs.Option.{is_some, option_or}
use Rattle.std.specs.BTreeMap.{is_at}
use Rattle.std.specs.Map.{keys_of}
use Rattle.std.proofs.lemmas.Map.Keys.{sorted_tail}
use Rattle.svn_types.specs.Names.{Path, path_cmp}
use Rattle.svn_types.specs.Paths.{path_eq, is_within}
use Rattle.svn_model.specs.declared.base_node.BaseNode.{BaseNode}
use Rattle.svn_types.proofs.PathsInOrder.{not_before_itself, not_both}
use Rattle.svn_types.proofs.PathLemmas.{same_path, path_eq-symm}
use Rattle.svn_model.specs.Nodes.{get_in, InPathOrder}
use Rattle.law_copy.proofs.Lookups.{at_path, get_in-append}
use Rattle.law_copy.proofs.NodeLists.{absent_after}
use Rattle.svn_nodes.proofs.NodeOrder.{at_first, first_or_after, before_behind}

-- a path is one of these
abbrev pub is_one : List Path → Path → Bool
is_one paths p = list_any (λ q. path_eq q p) paths

-- ---- the nodes that come

pub record PutSoFar (part old now left : List (Path × BaseNode)) : Type 0 where
  pub done : List (Path × BaseNode)
  pub parts : part ≡ done ++ left
  pub nodes : (p : Path) → get_in now p ≡ option_or (get_in done p) (get_in old p)

pub put_begins : (part old : List (Path × BaseNode)) → PutSoFar part old old part
put_begins part old = record { done = []; parts = refl; nodes = λ p. refl }

module _ (part old now : List (Path × BaseNode)) (order : InPathOrder part) (e : Path × BaseNode) (left : List (Path × BaseNode))
    (s : PutSoFar part old now (e ∷ left)) where
  pub place_there : ((p : Path) → is_some (get_in part p) ≡ true → is_some (get_in old p) ≡ true) → is_some (get_in now e.0) ≡ true
  place_there places = ap is_some (s.nodes e.0) ∙ by (get_in s.done e.0)
    where
      there : is_some (get_in old e.0) ≡ true
      there =
          places e.0 (ap (λ l. is_some (get_in l e.0)) s.parts ∙ ap is_some (get_in-append s.done (e ∷ left) e.0) ∙ one (get_in s.done e.0))
        where
          one : (o : Option BaseNode) → is_some (option_or o (get_in (e ∷ left) e.0)) ≡ true
          one None = ap is_some (at_first e left)
          one (Some n) = refl

      by : (o : Option BaseNode) → is_some (option_or o (get_in old e.0)) ≡ true
      by None = there
      by (Some n) = refl

  pub put_on : (now2 : List (Path × BaseNode)) → ((p : Path) → get_in now2 p ≡ cond (path_eq e.0 p) (Some e.1) (get_in now p))
      → PutSoFar part old now2 left
  put_on now2 put = record {
    done = s.done ++ e ∷ [];
    parts = s.parts ∙ cut s.done;
    nodes = λ p. put p ∙ ap (cond (path_eq e.0 p) (Some e.1)) (s.nodes p) ∙ by p (path_eq e.0 p) refl (get_in s.done p) refl
        ∙ ap (λ o. option_or o (get_in old p)) (sym (get_in-append s.done (e ∷ []) p
        ∙ ap (λ b. option_or (get_in s.done p) (cond b (Some e.1) None)) (at_path p e.0 ∙ path_eq-symm p e.0)));
  }
    where
      cut : (xs : List (Path × BaseNode)) → xs ++ e ∷ left ≡ (xs ++ e ∷ []) ++ left
      cut [] = refl
      cut (x ∷ xs) = ap (λ l. x ∷ l) (cut xs)

      by : (p : Path) (b : Bool) → path_eq e.0 p ≡ b → (o : Option BaseNode) → get_in s.done p ≡ o
          → cond b (Some e.1) (option_or o (get_in old p)) ≡ option_or (option_or o (cond b (Some e.1) None)) (get_in old p)
      by p true same None g = refl
      by p false same None g = refl
      by p false same (Some n) g = refl
      by p true same (Some n) g =
          absurd (not_before_itself e.0 (before_behind s.done (e ∷ left) (subst InPathOrder s.parts order) e.0 e.0
          (ap is_some (ap (get_in s.done) (same_path e.0 p same) ∙ g)) (ap is_some (at_first e left))))

pub put_ends : (part old now : List (Path × BaseNode)) → PutSoFar part old now [] → (p : Path)
    → get_in now p ≡ option_or (get_in part p) (get_in old p)
put_ends part old now s p = s.nodes p ∙ ap (λ l. option_or (get_in l p) (get_in old p)) (sym (append-nil s.done) ∙ sym s.parts)

-- ---- the whole

-- the steps together
module _ (at : Path) (old part w1 w2 w3 : List (Path × BaseNode)) (gones news : List Path)
    (within : (p : Path) → is_within at p ≡ false → get_in part p ≡ None)
    (found_gone : (p : Path) → is_one gones p ≡ ((is_within at p && is_some (get_in old p)) && is_none (get_in part p)))
    (found_new : (p : Path) → is_one news p ≡ ((is_within at p && is_some (get_in part p)) && is_none (get_in old p)))
    (others : (p : Path) → is_one news p ≡ false → get_in w1 p ≡ get_in old p)
    (gone : (p : Path) → get_in w2 p ≡ cond (is_one gones p) None (get_in w1 p)) where
  -- something comes within the path alone
  comes_within : (p : Path) → is_some (get_in part p) ≡ true → is_within at p ≡ true
  comes_within p some = by (is_within at p) refl
    where
      by : (b : Bool) → is_within at p ≡ b → b ≡ true
      by true h = refl
      by false h = absurd (true≢false (sym some ∙ ap is_some (within p h)))

  -- where something comes there is a place
  pub room : ((p : Path) → is_one news p ≡ true → is_some (get_in w1 p) ≡ true) → (p : Path) → is_some (get_in part p) ≡ true
      → is_some (get_in w2 p) ≡ true
  room made p some = ap is_some (gone p) ∙ ap (λ b. is_some (cond b None (get_in w1 p))) (found_gone p) ∙ by (get_in part p) some
    where
      was : (o : Option BaseNode) → get_in old p ≡ o → is_some (get_in w1 p) ≡ true
      was None g = made p (found_new p ∙ (λ i. (comes_within p some i && some i) && is_none (g i)))
      was (Some n) g =
          ap is_some (others p (found_new p ∙ (λ i. (comes_within p some i && some i) && is_none (g i))) ∙ g)

      off : (b : Bool) → (b && false) ≡ false
      off true = refl
      off false = refl

      by : (o : Option BaseNode) → is_some o ≡ true
          → is_some (cond ((is_within at p && is_some (get_in old p)) && is_none o) None (get_in w1 p)) ≡ true
      by None s = absurd (true≢false (sym s))
      by (Some n) s =
          ap (λ b. is_some (cond b None (get_in w1 p))) (off (is_within at p && is_some (get_in old p))) ∙ was (get_in old p) refl

  pub whole : ((p : Path) → get_in w3 p ≡ option_or (get_in part p) (get_in w2 p)) → (p : Path)
      → get_in w3 p ≡ cond (is_within at p) (get_in part p) (get_in old p)
  whole put p = put p ∙ by (get_in part p) refl (is_within at p) refl
    where
      -- where nothing comes
      rest : get_in part p ≡ None → get_in w2 p ≡ cond ((is_within at p && is_some (get_in old p)) && true) None (get_in old p)
      rest none =
          gone p
          ∙ (λ i. cond (found_gone p i) None (others p (found_new p ∙ ap (λ o. (is_within at p && is_some o) && is_none (get_in old p)) none
          ∙ off (is_within at p) (is_none (get_in old p))) i))
          ∙ ap (λ o. cond ((is_within at p && is_some (get_in old p)) && is_none o) None (get_in old p)) none
        where
          off : (b c : Bool) → ((b && false) && c) ≡ false
          off true c = refl
          off false c = refl

      left : (b : Bool) (o : Option BaseNode) → cond ((b && is_some o) && true) None o ≡ cond b None o
      left true None = refl
      left true (Some n) = refl
      left false o = refl

      by : (o : Option BaseNode) → get_in part p ≡ o → (b : Bool) → is_within at p ≡ b → option_or o (get_in w2 p) ≡ cond b o (get_in old p)
      by (Some n) g true i = refl
      by (Some n) g false i = let bad : None ≡ Some n = sym (within p i) ∙ g in absurd (true≢false (sym (ap is_some bad)))
      by None g b i = rest g ∙ left (is_within at p) (get_in old p) ∙ ap (λ x. cond x None (get_in old p)) i

-- ---- the same nodes

-- two lists in path order that have the same node at each path are one list
pub same_nodes : (es fs : List (Path × BaseNode)) → InPathOrder es → InPathOrder fs → ((p : Path) → get_in es p ≡ get_in fs p) → es ≡ fs
same_nodes [] [] s t same = refl
same_nodes [] (f ∷ fs) s t same = absurd (true≢false (sym (ap is_some (same f.0) ∙ ap is_some (at_first f fs))))
same_nodes (e ∷ es) [] s t same = absurd (true≢false (sym (ap is_some (at_first e es)) ∙ ap is_some (same e.0)))
same_nodes (e ∷ es) (f ∷ fs) s t same =
    joined (first e es f fs s t same) (same_nodes es fs (sorted_tail path_cmp e.0 (keys_of es) s) (sorted_tail path_cmp f.0 (keys_of fs) t))
  where
    first : (e : Path × BaseNode) (es : List (Path × BaseNode)) (f : Path × BaseNode) (fs : List (Path × BaseNode)) → InPathOrder (e ∷ es)
        → InPathOrder (f ∷ fs) → ((p : Path) → get_in (e ∷ es) p ≡ get_in (f ∷ fs) p) → e.0 ≡ f.0
    first e es f fs s t same =
        first_or_after (e.0 ≡ f.0) f fs t e.0 (sym (ap is_some (same e.0)) ∙ ap is_some (at_first e es)) (λ same. same)
        (λ after. first_or_after (e.0 ≡ f.0) e es s f.0 (ap is_some (same f.0) ∙ ap is_some (at_first f fs)) (λ same. sym same)
        (λ before. absurd (not_both e.0 f.0 before after)))

    joined : e.0 ≡ f.0 → (((p : Path) → get_in es p ≡ get_in fs p) → es ≡ fs) → e ∷ es ≡ f ∷ fs
    joined key rest =
        let value : e.1 ≡ f.1 = same_Some e.1 f.1 (sym (at_first e es) ∙ same e.0 ∙ ap (get_in (f ∷ fs)) key ∙ at_first f fs) in
        λ i. (key i, value i) ∷ rest later i
      where
        later : (p : Path) → get_in es p ≡ get_in fs p
        later p = by (is_at (path_cmp p) e.0) refl (is_at (path_cmp p) f.0) refl (same p)
          where
            by : (a : Bool) → is_at (path_cmp p) e.0 ≡ a → (b : Bool) → is_at (path_cmp p) f.0 ≡ b
                → cond a (Some e.1) (get_in es p) ≡ cond b (Some f.1) (get_in fs p) → get_in es p ≡ get_in fs p
            by false x false y h = h
            by true x b y h =
                let own : p ≡ e.0 = same_path p e.0 (sym (at_path p e.0) ∙ x) in
                ap (get_in es) own ∙ absent_after e es s ∙ sym (ap (get_in fs) (own ∙ key) ∙ absent_after f fs t)
            by false x true y h =
                let own : p ≡ f.0 = same_path p f.0 (sym (at_path p f.0) ∙ y) in
                ap (get_in es) (own ∙ sym key) ∙ absent_after e es s ∙ sym (ap (get_in fs) own ∙ absent_after f fs t)

pub restored : (paths : List Path) (old w1 w2 : List (Path × BaseNode)) → InPathOrder old → InPathOrder w2
    → ((p : Path) → is_one paths p ≡ true → get_in old p ≡ None) → ((p : Path) → is_one paths p ≡ false → get_in w1 p ≡ get_in old p)
    → ((p : Path) → get_in w2 p ≡ cond (is_one paths p) None (get_in w1 p)) → w2 ≡ old
restored paths old w1 w2 o o2 free others gone = same_nodes w2 old o2 o (λ p. gone p ∙ by p (is_one paths p) refl)
  where
    by : (p : Path) (b : Bool) → is_one paths p ≡ b → cond b None (get_in w1 p) ≡ get_in old p
    by p true e = sym (free p e)
    by p false e = others p e
