-- Where paths lead: a path in two parts, and after one node is changed in place, where the node is reached by one path alone.
use Rattle.std.proofs.Common.{◌≡◌, ◌≢◌, ℕ, true, false, cond, List, [], ◌∷◌, ◌++◌, length, refl, arith, Option, Some, None, sym, ap, ◌∙◌}
use Rattle.std.proofs.Common.{length-append, inl, inr}
use Rattle.std.specs.Prelude.{bytes_eq, slice_get}
use Rattle.std.specs.Option.{option_and_then}
use Rattle.std.proofs.lemmas.Bool.{cases_Bool}
use Rattle.std.proofs.lemmas.Slice.Eq.{bytes_eq-Decides}
use Rattle.svn_lists.proofs.Options.{and_then_parts, and_then_same}
use Rattle.svn_types.specs.Names.{Path}
use Rattle.svn_repo.specs.History.{History, Nodes, node_at, child_in, walk, look}
use Rattle.svn_repo.specs.Walks.{rest_below, led}

-- g is f but for node k
abbrev pub SameBut : Nodes → Nodes → ℕ → Type 0
SameBut f g k = (m : ℕ) → m ≢ k → g m ≡ f m

-- no path leads from n to k
abbrev pub IsApart : Nodes → ℕ → ℕ → Type 0
IsApart f n k = (r : Path) → walk f n r ≡ Some k → ⊥

-- p leads from n to k, and no other path does
pub record IsOnlyWay (f : Nodes) (n : ℕ) (p : Path) (k : ℕ) : Type 0 where
  pub leads : walk f n p ≡ Some k
  pub only : (r : Path) → walk f n r ≡ Some k → r ≡ p

-- the first step of a walk
pub walk_step : (f : Nodes) (n c : ℕ) (name : List ℕ) (q : Path) → child_in (f n) name ≡ Some c → walk f n (name ∷ q) ≡ walk f c q
walk_step f n c name q e = ap (option_and_then (λ m. walk f m q)) e

-- a path in two parts
pub walk-append : (f : Nodes) (n : ℕ) (p q : Path) → walk f n (p ++ q) ≡ option_and_then (λ m. walk f m q) (walk f n p)
walk-append f n [] q = refl
walk-append f n (name ∷ p) q = by (child_in (f n) name) (λ m. walk-append f m p q)
  where
    by : (o : Option ℕ) → ((m : ℕ) → walk f m (p ++ q) ≡ option_and_then (λ k. walk f k q) (walk f m p))
        → option_and_then (λ m. walk f m (p ++ q)) o ≡ option_and_then (λ m. walk f m q) (option_and_then (λ m. walk f m p) o)
    by None next = refl
    by (Some m) next = next m

pub look-append : (h : History) (rev : ℕ) (p q : Path) → look h rev (p ++ q) ≡ option_and_then (λ m. walk (node_at h) m q) (look h rev p)
look-append h rev p q = by (slice_get h.roots rev)
  where
    by : (o : Option ℕ)
        → option_and_then (λ n. walk (node_at h) n (p ++ q)) o
        ≡ option_and_then (λ m. walk (node_at h) m q) (option_and_then (λ n. walk (node_at h) n p) o)
    by None = refl
    by (Some n) = walk-append (node_at h) n p q

-- the first part leads to a node
pub walk_on : (f : Nodes) (n k : ℕ) (p q : Path) → walk f n p ≡ Some k → walk f n (p ++ q) ≡ walk f k q
walk_on f n k p q h = walk-append f n p q ∙ ap (option_and_then (λ m. walk f m q)) h

child_apart : (f : Nodes) (n k c : ℕ) (name : List ℕ) → IsApart f n k → child_in (f n) name ≡ Some c → IsApart f c k
child_apart f n k c name apart e = λ r h. apart (name ∷ r) (walk_step f n c name r e ∙ h)

pub walk_avoiding : (f g : Nodes) (k : ℕ) → SameBut f g k → (n : ℕ) (q : Path) → IsApart f n k → walk g n q ≡ walk f n q
walk_avoiding f g k same n [] apart = refl
walk_avoiding f g k same n (name ∷ q) apart =
    ap (λ o. option_and_then (λ c. walk g c q) (child_in o name)) (same n (λ e. apart [] (ap Some e)))
    ∙ and_then_same (λ c. walk g c q) (λ c. walk f c q) (child_in (f n) name)
    (λ c e. walk_avoiding f g k same c q (child_apart f n k c name apart e))

tail_only : (f : Nodes) (n c k : ℕ) (m : List ℕ) (p : Path) → IsOnlyWay f n (m ∷ p) k → child_in (f n) m ≡ Some c → IsOnlyWay f c p k
tail_only f n c k m p way e = record {
  leads = sym (walk_step f n c m p e) ∙ way.leads;
  only = λ r h. let s : m ∷ r ≡ m ∷ p = way.only (m ∷ r) (walk_step f n c m r e ∙ h) in cc;
}

side_apart : (f : Nodes) (n c k : ℕ) (m x : List ℕ) (p : Path) → IsOnlyWay f n (m ∷ p) k → bytes_eq m x ≡ false → child_in (f n) x ≡ Some c
    → IsApart f c k
side_apart f n c k m x p way ne e = λ r h.
    let s : x ∷ r ≡ m ∷ p = way.only (x ∷ r) (walk_step f n c x r e ∙ h) in
    let t : m ≡ x = cc in
    let u : bytes_eq m x ≡ true = (bytes_eq-Decides m x).1 t in
    cc

-- a walk that goes through k goes on as g does there, and any other is as before
pub walk_through : (f g : Nodes) (k : ℕ) → SameBut f g k → (n : ℕ) (p q : Path) → IsOnlyWay f n p k
    → walk g n q ≡ led (rest_below p q) (walk g k) (walk f n q)
walk_through f g k same n [] q way = let l : Some n ≡ Some k = way.leads in let e : n ≡ k = cc in ap (λ x. walk g x q) e
walk_through f g k same n (m ∷ p) [] way = refl
walk_through f g k same n (m ∷ p) (x ∷ q) way =
    let ne : n ≢ k = λ e. (let s : [] ≡ m ∷ p = way.only [] (ap Some e) in cc) in
    let s = and_then_parts (λ c. walk f c p) (child_in (f n) m) k way.leads in
    let first : walk g n (x ∷ q) ≡ option_and_then (λ c. walk g c q) (child_in (f n) x) =
    ap (λ o. option_and_then (λ c. walk g c q) (child_in o x)) (same n ne) in
    elim (cases_Bool (bytes_eq m x)) [
      | inl t ↦
          let e : m ≡ x = (bytes_eq-Decides m x).0 t in
          let at : child_in (f n) x ≡ Some s.0 = ap (child_in (f n)) (sym e) ∙ s.1 in
          let on : walk g s.0 q ≡ led (rest_below p q) (walk g k) (walk f s.0 q) =
          walk_through f g k same s.0 p q (tail_only f n s.0 k m p way s.1) in
          let old : walk f s.0 q ≡ walk f n (x ∷ q) = sym (walk_step f n s.0 x q at) in
          rw t (first ∙ ap (option_and_then (λ c. walk g c q)) at ∙ on ∙ ap (led (rest_below p q) (walk g k)) old)
      | inr t ↦
          rw t (first ∙ and_then_same (λ c. walk g c q) (λ c. walk f c q) (child_in (f n) x)
          (λ c e. walk_avoiding f g k same c q (side_apart f n c k m x p way t e)))
    ]

pub rest_below_child : (p : Path) (name : List ℕ) (q : Path)
    → rest_below (p ++ name ∷ []) q ≡ option_and_then (rest_below (name ∷ [])) (rest_below p q)
rest_below_child [] name q = refl
rest_below_child (m ∷ p) name [] = refl
rest_below_child (m ∷ p) name (x ∷ q) = elim (cases_Bool (bytes_eq m x)) [ inl t ↦ rw t (rest_below_child p name q) | inr t ↦ rw t refl ]

pub rest_below_is : (p q r : Path) → rest_below p q ≡ Some r → q ≡ p ++ r
rest_below_is [] q r h = cc
rest_below_is (m ∷ p) [] r h = cc
rest_below_is (m ∷ p) (x ∷ q) r h = elim (cases_Bool (bytes_eq m x)) [
  | inl t ↦ let e : m ≡ x = (bytes_eq-Decides m x).0 t in let h2 = rw t at h in let i : q ≡ p ++ r = rest_below_is p q r h2 in cc
  | inr t ↦ let h2 = rw t at h in let bad : None ≡ Some r = h2 in cc
]

-- the new way below p and a name: what was at the name is replaced by w
pub walk_after_put : (f g : Nodes) (k n : ℕ) (p : Path) (name : List ℕ) (w : Option ℕ) → SameBut f g k
    → ((x : List ℕ) → child_in (g k) x ≡ cond (bytes_eq name x) w (child_in (f k) x)) → IsOnlyWay f n p k
    → ((c : ℕ) → w ≡ Some c → IsApart f c k) → (q : Path)
    → walk g n q ≡ led (rest_below (p ++ name ∷ []) q) (λ r. option_and_then (λ c. walk f c r) w) (walk f n q)
walk_after_put f g k n p name w same put way aside q =
    walk_through f g k same n p q way ∙ by_rest (rest_below p q) refl
  where
    goal : Option Path → Type 0
    goal o = led o (walk g k) (walk f n q) ≡ led (rest_below (p ++ name ∷ []) q) (λ r. option_and_then (λ c. walk f c r) w) (walk f n q)

    new : Path → Option ℕ
    new r = option_and_then (λ c. walk f c r) w

    below_apart : (c : ℕ) (x : List ℕ) → child_in (f k) x ≡ Some c → IsApart f c k
    below_apart c x h = λ r back.
        let s : p ++ x ∷ r ≡ p = way.only (p ++ x ∷ r) (walk_on f n k p (x ∷ r) way.leads ∙ walk_step f k c x r h ∙ back) in
        let l : length (p ++ x ∷ r) ≡ length p = ap length s in
        absurd (omega (arith, length-append p (x ∷ r)))

    by_rest : (o : Option Path) → o ≡ rest_below p q → goal o
    by_rest None e = rw (rest_below_child p name q, ← e) refl
    by_rest (Some []) e =
        let q_is : q ≡ p ++ [] = rest_below_is p q [] (sym e) in
        let at : walk f n q ≡ Some k = ap (walk f n) q_is ∙ walk_on f n k p [] way.leads in
        rw (rest_below_child p name q, ← e) (sym at)
    by_rest (Some (x ∷ r)) e =
        let q_is : q ≡ p ++ x ∷ r = rest_below_is p q (x ∷ r) (sym e) in
        let at : walk f n q ≡ walk f k (x ∷ r) = ap (walk f n) q_is ∙ walk_on f n k p (x ∷ r) way.leads in
        rw (rest_below_child p name q, ← e) (elim (cases_Bool (bytes_eq name x)) [
          | inl t ↦ rw (put x, t) (and_then_same (λ c. walk g c r) (λ c. walk f c r) w (λ c h. walk_avoiding f g k same c r (aside c h)))
          | inr t ↦ rw (put x, t) (and_then_same (λ c. walk g c r) (λ c. walk f c r) (child_in (f k) x)
              (λ c h. walk_avoiding f g k same c r (below_apart c x h)) ∙ sym at)
        ])
