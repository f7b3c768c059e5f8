-- The pools after a refused call are those of the calls before it.
use Rattle.std.proofs.Common.{nat_eq, ◌≡◌, ◌≢◌, ℕ, ◌+◌, false, cond, List, [], ◌∷◌, ◌++◌, length, refl, sym, ◌∙◌, ap, subst, inl, inr}
use Rattle.std.proofs.Common.{append_assoc, append-nil, arith, true≢false}
use Rattle.std.specs.Prelude.{Option, Some, None, is_some, ◌⊎◌, Result, Ok, Err, IfOk, OnErr}
use Rattle.svn_lists.proofs.Results.{at_err, err_by, OnErr_then}
use Rattle.svn_serials.proofs.Pairs.{Updates}
use Rattle.std.specs.List.{list_any}
use Rattle.std.specs.FinMap as map_of
use Rattle.std.proofs.lemmas.Bool.{cases_eq, eq-eqb}
use Rattle.std.proofs.lemmas.Option.{same_Some, none-some}
use Rattle.md5.specs.Md5.{md5}
use Rattle.svn_types.specs.Names.{Path}
use Rattle.svn_pool.specs.Pools.{Entry, Pools, pool_at, parent_of, strings_of_pool, strings_at, created, pushed}
use Rattle.svn_pool.specs.Ancestry.{IsBeneath}
use Rattle.svn_pool.proofs.Views.{inserted_here, inserted_away}
use Rattle.svn_editor.specs.declared.call.Call.{Call}
use Rattle.svn_editor.specs.declared.call.Call.TheVariants.{AbortEdit}
use Rattle.svn_editor.specs.declared.fault.EditFault.{EditFault}
use Rattle.svn_editor.specs.declared.fault.EditFault.TheVariants.{Memory}
use Rattle.svn_editor.specs.Calls.{Given, given, given_by, named_by, all_given, is_abort, is_last}
use Rattle.svn_editor.specs.Order.{order_fault}
use Rattle.svn_editor.specs.declared.mode.Mode.{Mode}
use Rattle.svn_editor.specs.Steps.{Action}
use Rattle.svn_editor.proofs.Accepted.{accepted}
use Rattle.svn_order.proofs.Sound.{numbered_next}
use Rattle.svn_model.specs.declared.base_node.BaseNode.{BaseNode}
use Rattle.svn_model.specs.Nodes.{WorkingCopy, get_in}
use Rattle.svn_model.specs.Effects.{step_fault}
use Rattle.svn_model.specs.Answering.{IsAnswer}
use Rattle.svn_edit.specs.declared.baton.Baton.{Baton}
use Rattle.svn_edit.specs.declared.edit.Edit.{Edit}
use Rattle.svn_edit.specs.declared.pending.Pending.{Pending}
use Rattle.svn_edit.specs.declared.opening.NewNode.{NewNode}
use Rattle.svn_edit.specs.declared.edit.Stage.TheVariants.{Going, Refused, Ended}
use Rattle.svn_edit.specs.Applying.{Batons, batons_of, pool_or, pool_above, pool_entry, IsLeaf, HoldsBatons, PoolGone}
use Rattle.svn_edit.specs.Applying.{IsNext, IsRefused, StandsAfter, MakesBaton, LetsGo, KeepsTarget, MakesNode}
use Rattle.svn_edit.specs.Opening.{GivesToken}
use Rattle.svn_edit.specs.Leaving.{call_strings, HasPool, HoldsPools, IsLeft, LeavesPools, PoolsAfter, SamePools, KeepsPools, BatonBegan}
use Rattle.svn_edit.specs.Leaving.{NoteBegan}
use Rattle.svn_edit.proofs.PoolStrings.{own_one, others_one, len_pushed, len_created}
use Rattle.svn_edit.proofs.Closes.{named_baton}
use Rattle.svn_types.specs.declared.kind.Kind.{Kind}
use Rattle.svn_edit.proofs.HeldBatons.{unopened, above_same, beneath_kept, root_apart}

-- what became of a baton and its pool
pub record CameFrom (pools pools2 : Pools) (refused : List (List ℕ)) (b d : Baton) : Type 0 where
  pub path : d.path ≡ b.path
  pub same_pool : d.pool.0 ≡ b.pool.0
  pub begun : List (List ℕ)
  pub left : List (List ℕ)
  pub among : begun ++ left ≡ refused
  pub strings : strings_at pools2 b.pool.0 ≡ strings_at pools b.pool.0 ++ begun

-- the same pools and the same tokens, each baton with its pool
pub record Carries (pools pools2 : Pools) (at at2 : Batons) (refused : ℕ → List (List ℕ)) : Type 0 where
  pub root : pools2.root ≡ pools.root
  pub count : map_of.len pools2.live ≡ map_of.len pools.live
  pub parents : (s : ℕ) → parent_of (pool_at pools2 s) ≡ parent_of (pool_at pools s)
  pub live : (s : ℕ) (e : Entry) → pool_at pools2 s ≡ Some e → (x : Entry) × (pool_at pools s ≡ Some x)
  pub first : pool_at pools2 pools.root ≡ pool_at pools pools.root
  pub forth : (t : ℕ) (b : Baton) → at t ≡ Some b → (d : Baton) × (at2 t ≡ Some d) × (d.pool.0 ≡ b.pool.0)
  pub back : (t : ℕ) (d : Baton) → at2 t ≡ Some d → (b : Baton) × (at t ≡ Some b) × CameFrom pools pools2 (refused t) b d

module _ (pools pools2 : Pools) (at at2 : Batons) (calls : List Call) (c : Call) (h : HoldsBatons pools at calls)
    (k : Carries pools pools2 at at2 (call_strings c)) where
  some_same : (t : ℕ) → is_some (at2 t) ≡ is_some (at t)
  some_same t = by (at t) refl (at2 t) refl
    where
      by : (o : Option Baton) → at t ≡ o → (o2 : Option Baton) → at2 t ≡ o2 → is_some o2 ≡ is_some o
      by None e None f = refl
      by None e (Some d) f = let x = k.back t d f in absurd (none-some x.0 (sym e ∙ x.1))
      by (Some b) e None f = let x = k.forth t b e in absurd (none-some x.0 (sym f ∙ x.1))
      by (Some b) e (Some d) f = refl

  pool_same : (t : ℕ) → pool_or pools.root (at2 t) ≡ pool_or pools.root (at t)
  pool_same t = by (at t) refl (at2 t) refl
    where
      by : (o : Option Baton) → at t ≡ o → (o2 : Option Baton) → at2 t ≡ o2 → pool_or pools.root o2 ≡ pool_or pools.root o
      by None e None f = refl
      by None e (Some d) f = let x = k.back t d f in absurd (none-some x.0 (sym e ∙ x.1))
      by (Some b) e None f = let x = k.forth t b e in absurd (none-some x.0 (sym f ∙ x.1))
      by (Some b) e (Some d) f =
          let x = k.forth t b e in ap (λ (y : Baton). y.pool.0) (same_Some d x.0 (sym f ∙ x.1)) ∙ x.2

  above_now : (o : Option Given) → pool_above pools2.root at2 o ≡ pool_above pools.root at o
  above_now o = ap (λ r. pool_above r at2 o) k.root ∙ above_same pools.root at at2 o (λ g m e f p. pool_same m)

  pub held_left : HoldsPools pools2 at2 calls c
  held_left = record {
    opened = λ t. some_same t ∙ h.opened t;
    each = λ t d e. has_pool t d (k.back t d e);
    apart = λ t u b d e f same.
        let x = k.back t b e in
        let y = k.back u d f in
        h.apart t u x.0 y.0 x.1 y.1 (sym x.2.same_pool ∙ same ∙ y.2.same_pool);
    root = ap (pool_at pools2) k.root ∙ k.first ∙ h.root;
    only = λ s e there n.
        let was = k.live s e there in
        let x = h.only s was.0 was.1 (λ y. n (y ∙ sym k.root)) in
        let z = k.forth x.0 x.1 x.2 in
        (x.0, z.0, z.1, z.2 ∙ x.3);
    beneath = λ s e there n.
        let was = k.live s e there in
        let up = h.beneath s was.0 was.1 (λ y. n (y ∙ sym k.root)) in
        subst (λ r. IsBeneath (pool_at pools2) r s) (sym k.root) (
          up.0,
          beneath_kept (pool_at pools) (pool_at pools2) pools.root (λ q p e2. k.parents q ∙ e2) up.0 s up.1,
        );
    count = k.count ∙ h.count;
  }
    where
      has_pool : (t : ℕ) (d : Baton) → (b : Baton) × (at t ≡ Some b) × CameFrom pools pools2 (call_strings c t) b d
          → HasPool pools2 at2 calls (call_strings c t) t d
      has_pool t d x =
          let is = h.each t x.0 x.1 in
          let from = x.2 in
          record {
            path = from.path ∙ is.path;
            parent = ap (λ s. parent_of (pool_at pools2 s)) from.same_pool ∙ k.parents x.0.pool.0 ∙ ap parent_of is.pool
                ∙ ap Some (sym (above_now (given calls t)));
            begun = from.begun;
            left = from.left;
            among = from.among;
            strings = ap (strings_at pools2) from.same_pool ∙ from.strings
                ∙ ap (λ (o : Option Entry). strings_of_pool o ++ from.begun) is.pool;
          }

-- ---- nothing was begun

-- a baton whose pool is as before
came_same : (pools pools2 : Pools) (refused : List (List ℕ)) (b : Baton) → pool_at pools2 b.pool.0 ≡ pool_at pools b.pool.0
    → CameFrom pools pools2 refused b b
came_same pools pools2 refused b same = record {
  path = refl;
  same_pool = refl;
  begun = [];
  left = refused;
  among = refl;
  strings = ap strings_of_pool same ∙ sym (append-nil (strings_at pools b.pool.0));
}

pub same_left : (pools pools2 : Pools) (at at2 : Batons) (calls : List Call) (c : Call) → HoldsBatons pools at calls
    → SamePools pools pools2 → ((t : ℕ) → at2 t ≡ at t) → HoldsPools pools2 at2 calls c
same_left pools pools2 at at2 calls c h same tokens = held_left pools pools2 at at2 calls c h (record {
  root = same.root;
  count = same.count;
  parents = λ s. ap parent_of (same.pools s);
  live = λ s e there. (e, sym (same.pools s) ∙ there);
  first = same.pools pools.root;
  forth = λ t b e. (b, tokens t ∙ e, refl);
  back = λ t d e. (d, sym (tokens t) ∙ e, came_same pools pools2 (call_strings c t) d (same.pools d.pool.0));
})

pub keeps_left : (old new : Pending) (calls : List Call) (c : Call) → HoldsBatons old.pools (batons_of old) calls → KeepsPools old new
    → HoldsPools new.pools (batons_of new) calls c
keeps_left old new calls c h same = same_left old.pools new.pools (batons_of old) (batons_of new) calls c h same.pools same.batons

pub pools_same : (pools : Pools) → SamePools pools pools
pools_same pools = record { pools = λ s. refl; root = refl; count = refl }

pub keeps_same : (edit : Pending) → KeepsPools edit edit
keeps_same edit = record { pools = pools_same edit.pools; batons = λ t. refl }

-- a pool that was made goes again
pub taken_back : (old made new : Pools) (s : ℕ) → pool_at old s ≡ None → ((q : ℕ) → q ≢ s → pool_at made q ≡ pool_at old q)
    → made.root ≡ old.root → map_of.len made.live ≡ map_of.len old.live + 1 → PoolGone s made new → SamePools old new
taken_back old made new s fresh others root count gone = record {
  pools = λ q. elim (cases_eq q s) [
    | inl is ↦ ap (pool_at new) is ∙ gone.gone ∙ sym (ap (pool_at old) is ∙ fresh)
    | inr away ↦ gone.others q away ∙ others q away
  ];
  root = gone.root ∙ root;
  count = let more = gone.count in omega (arith, more, count);
}

-- a baton that was made goes again
pub baton_taken_back : (old made new : Pending) (beneath : ℕ) (p : Path) (t : ℕ) → MakesBaton beneath p t old made → LetsGo t made new
    → batons_of old t ≡ None → KeepsPools old new
baton_taken_back old made new beneath p t m goes none =
    let gone = goes m.baton _ m.token m.begun.made m.begun.leaf (λ e. m.begun.apart (e ∙ m.begun.root)) in record {
      pools = taken_back old.pools made.pools new.pools m.baton.pool.0 m.begun.fresh m.begun.others m.begun.root m.begun.count gone.pool;
      batons = λ u. elim (cases_eq u t) [
        | inl is ↦ ap (batons_of new) is ∙ gone.token ∙ sym (ap (batons_of old) is ∙ none)
        | inr away ↦ gone.tokens u away ∙ m.tokens u away
      ];
    }

-- a pool that was made, and to which no string was pushed
pub undone : (old made new : Pools) (s beneath : ℕ) → made ≡ created old beneath → s ≡ old.next → pool_at old old.next ≡ None
    → ((e : Entry) → pool_at made s ≡ Some e → IsLeaf made s → s ≢ made.root → PoolGone s made new) → IsLeaf made s → old.next ≢ old.root
    → SamePools old new
undone old made new s beneath is serial fresh goes leaf apart =
    taken_back old made new s (ap (pool_at old) serial ∙ fresh)
    (λ q n. ap (λ (v : Pools). pool_at v q) is ∙ inserted_away old.live old.next (pool_entry beneath []) q (λ e. n (e ∙ sym serial)))
    (ap (λ (v : Pools). v.root) is) (ap (λ (v : Pools). map_of.len v.live) is ∙ len_created old beneath fresh)
    (goes (pool_entry beneath []) ((λ i. pool_at (is i) (serial i)) ∙ inserted_here old.live old.next (pool_entry beneath [])) leaf
    (λ e. apart (sym serial ∙ e ∙ ap (λ (v : Pools). v.root) is)))

-- ---- a baton began to note

module _ (old new : Pending) (calls : List Call) (c : Call) (t : ℕ) (b : Baton) (strings : List (List ℕ))
    (h : HoldsBatons old.pools (batons_of old) calls) (there : batons_of old t ≡ Some b) (brings : call_strings c t ≡ strings)
    (n : NoteBegan t b strings old new) where
  root_away : old.pools.root ≢ b.pool.0
  root_away = root_apart old.pools (batons_of old) calls h t b there

  own_pool : (x : Entry) × (pool_at old.pools b.pool.0 ≡ Some x)
  own_pool = (_, (h.each t b there).pool)

  own_now : pool_at new.pools b.pool.0 ≡ Some (record { parent = own_pool.0.parent; strings = own_pool.0.strings ++ n.began.begun })
  own_now = n.began.own own_pool.0 own_pool.1

  pub began_left : HoldsPools new.pools (batons_of new) calls c
  began_left = held_left old.pools new.pools (batons_of old) (batons_of new) calls c h (record {
    root = n.began.root;
    count = n.began.count own_pool.0 own_pool.1;
    parents = λ s. parents_by s (cases_eq s b.pool.0);
    live = λ s e at. live_by s e at (cases_eq s b.pool.0);
    first = n.began.others old.pools.root root_away;
    forth = λ u x e. forth_by u x e (cases_eq u t);
    back = λ u d e. back_by u d e (cases_eq u t);
  })
    where
      parents_by : (s : ℕ) → (s ≡ b.pool.0) ⊎ (s ≢ b.pool.0) → parent_of (pool_at new.pools s) ≡ parent_of (pool_at old.pools s)
      parents_by s (inl is) = ap (λ q. parent_of (pool_at new.pools q)) is ∙ ap parent_of own_now
          ∙ sym (ap (λ q. parent_of (pool_at old.pools q)) is ∙ ap parent_of own_pool.1)
      parents_by s (inr away) = ap parent_of (n.began.others s away)

      live_by : (s : ℕ) (e : Entry) → pool_at new.pools s ≡ Some e → (s ≡ b.pool.0) ⊎ (s ≢ b.pool.0)
          → (x : Entry) × (pool_at old.pools s ≡ Some x)
      live_by s e at (inl is) = (own_pool.0, ap (pool_at old.pools) is ∙ own_pool.1)
      live_by s e at (inr away) = (e, sym (n.began.others s away) ∙ at)

      forth_by : (u : ℕ) (x : Baton) → batons_of old u ≡ Some x → (u ≡ t) ⊎ (u ≢ t)
          → (d : Baton) × (batons_of new u ≡ Some d) × (d.pool.0 ≡ x.pool.0)
      forth_by u x e (inl is) = (
        n.baton,
        ap (batons_of new) is ∙ n.token,
        n.began.same_pool ∙ ap (λ (y : Baton). y.pool.0) (same_Some b x (sym there ∙ ap (batons_of old) (sym is) ∙ e)),
      )
      forth_by u x e (inr away) = (x, n.tokens u away ∙ e, refl)

      back_by : (u : ℕ) (d : Baton) → batons_of new u ≡ Some d → (u ≡ t) ⊎ (u ≢ t)
          → (x : Baton) × (batons_of old u ≡ Some x) × CameFrom old.pools new.pools (call_strings c u) x d
      back_by u d e (inl is) =
          let same = same_Some n.baton d (sym n.token ∙ ap (batons_of new) (sym is) ∙ e) in (
            b,
            ap (batons_of old) is ∙ there,
            record {
              path = ap (λ (y : Baton). y.path) (sym same) ∙ n.began.path;
              same_pool = ap (λ (y : Baton). y.pool.0) (sym same) ∙ n.began.same_pool;
              begun = n.began.begun;
              left = n.began.left;
              among = n.began.among ∙ sym brings ∙ ap (call_strings c) (sym is);
              strings = ap strings_of_pool own_now ∙ ap (λ (o : Option Entry). strings_of_pool o ++ n.began.begun) (sym own_pool.1);
            },
          )
      back_by u d e (inr away) =
          let before = sym (n.tokens u away) ∙ e in
          let kept = n.began.others d.pool.0 (λ is. away (h.apart u t d b before there is)) in
          (d, before, came_same old.pools new.pools (call_strings c u) d kept)

pub unbegun : (strings : List (List ℕ)) (b d : Baton) (old new : Pools) → d.path ≡ b.path → d.pool.0 ≡ b.pool.0 → new ≡ old
    → BatonBegan strings b old d new
unbegun strings b d old new path pool same = record {
  path = path;
  same_pool = pool;
  begun = [];
  left = strings;
  among = refl;
  own = λ e there. ap (λ (p : Pools). pool_at p b.pool.0) same ∙ there
      ∙ ap (λ (l : List (List ℕ)). Some (record { parent = e.parent; strings = l })) (sym (append-nil e.strings));
  others = λ s n. ap (λ (p : Pools). pool_at p s) same;
  root = ap (λ (p : Pools). p.root) same;
  count = λ e there. ap (λ (p : Pools). map_of.len p.live) same;
}

-- one string was pushed
pub began_one : (b d : Baton) (t u : Pools) (x : List ℕ) (more whole : List (List ℕ)) → d.path ≡ b.path → d.pool.0 ≡ b.pool.0
    → u ≡ pushed t b.pool.0 x → (x ∷ []) ++ more ≡ whole → BatonBegan whole b t d u
began_one b d t u x more whole path pool is among = record {
  path = path;
  same_pool = pool;
  begun = x ∷ [];
  left = more;
  among = among;
  own = λ e there.
      ap (λ (v : Pools). pool_at v b.pool.0) is ∙ own_one t b.pool.0 x
      ∙ ap (λ (o : Option Entry). Some (record { parent = parent_of o; strings = strings_of_pool o ++ x ∷ [] })) there;
  others = λ s n. ap (λ (v : Pools). pool_at v s) is ∙ others_one t b.pool.0 x s n;
  root = ap (λ (v : Pools). v.root) is;
  count = λ e there. ap (λ (v : Pools). map_of.len v.live) is ∙ len_pushed t b.pool.0 x e there;
}

-- two were
pub began_two : (b d : Baton) (t u : Pools) (x y : List ℕ) (whole : List (List ℕ)) → d.path ≡ b.path → d.pool.0 ≡ b.pool.0
    → u ≡ pushed (pushed t b.pool.0 x) b.pool.0 y → x ∷ y ∷ [] ≡ whole → BatonBegan whole b t d u
began_two b d t u x y whole path pool is among = record {
  path = path;
  same_pool = pool;
  begun = x ∷ y ∷ [];
  left = [];
  among = among;
  own = λ e there.
      ap (λ (v : Pools). pool_at v b.pool.0) is ∙ own_one (pushed t b.pool.0 x) b.pool.0 y
      ∙ ap (λ (o : Option Entry). Some (record { parent = parent_of o; strings = strings_of_pool o ++ y ∷ [] }))
      (own_one t b.pool.0 x
      ∙ ap (λ (o : Option Entry). Some (record { parent = parent_of o; strings = strings_of_pool o ++ x ∷ [] })) there)
      ∙ ap (λ (l : List (List ℕ)). Some (record { parent = e.parent; strings = l })) (append_assoc e.strings (x ∷ []) (y ∷ []));
  others = λ s n. ap (λ (v : Pools). pool_at v s) is ∙ others_one (pushed t b.pool.0 x) b.pool.0 y s n ∙ others_one t b.pool.0 x s n;
  root = ap (λ (v : Pools). v.root) is;
  count = λ e there.
      ap (λ (v : Pools). map_of.len v.live) is ∙ len_pushed (pushed t b.pool.0 x) b.pool.0 y _ (own_one t b.pool.0 x)
      ∙ len_pushed t b.pool.0 x e there;
}

-- nothing of the note was pushed
pub none_began : (t : ℕ) (b : Baton) (strings : List (List ℕ)) (edit : Pending) → batons_of edit t ≡ Some b → NoteBegan t b strings edit edit
none_began t b strings edit there = record {
  baton = b;
  began = unbegun strings b b edit.pools edit.pools refl refl refl;
  token = there;
  tokens = λ u n. refl;
}

-- what was begun with the baton that a look-up returned
pub began_of : (t u : ℕ) (strings : List (List ℕ)) (x d : Baton) (old new : Pending) → u ≡ t → Some x ≡ batons_of old u
    → BatonBegan strings x old.pools d new.pools → Updates old.batons new.batons u (Some d) → (b : Baton)
    → batons_of old t ≡ Some b → NoteBegan t b strings old new
began_of t u strings x d old new key lent began updates b there =
    let written = subst (λ k. Updates old.batons new.batons k (Some d)) key updates in
    record {
      baton = d;
      began = subst (λ (y : Baton). BatonBegan strings y old.pools d new.pools) (same_Some x b (lent ∙ ap (batons_of old) key ∙ there))
          began;
      token = written.here;
      tokens = written.away;
    }

-- ---- a token that wasn't given

pub fresh_token : (edit : Pending) (calls : List Call) (c d : Call) (g : Given) → d ≡ c → IsNext edit calls d
    → given_by c ≡ Some g → is_abort c ≡ false → batons_of edit g.token ≡ None
fresh_token edit calls c d g is next gives going = nothing (batons_of edit g.token) (next.holds.batons.opened g.token
    ∙ unopened calls g.token (omega (arith, token)))
  where
    token : g.token ≡ length (all_given calls)
    token = numbered_next calls c g (accepted calls c going (ap (order_fault calls) (sym is) ∙ next.in_order)) gives

    nothing : (o : Option Baton) → is_some o ≡ false → o ≡ None
    nothing None h = refl
    nothing (Some b) h = absurd (true≢false h)

-- ---- an open or an add that is refused

pub own_answer : (e : EditFault) → IsAnswer (Some e) e
own_answer Memory = tt
own_answer _ = refl

pub gives_refused : (mode : Mode) (beneath : ℕ) (p : Path) (t : ℕ) (act : Action) (old : Pending) (nodes : List (Path × BaseNode))
    (r : Result (Unit {0}) EditFault) (e : EditFault) (new : Pending) (nodes2 : List (Path × BaseNode)) → r ≡ Err e
    → IsAnswer (step_fault md5 mode [] (get_in nodes) p act) e → KeepsTarget old new → nodes2 ≡ nodes
    → GivesToken mode beneath p t act old nodes r new nodes2
gives_refused mode beneath p t act old nodes r e new nodes2 is h keeps same =
    subst (λ (x : Result (Unit {0}) EditFault). GivesToken mode beneath p t act old nodes x new nodes2) (sym is)
    (record { opened = tt; keeps = keeps; applied = (h, same) })

-- what was made for an add has the path of that
pub made_opened : (p : Path) (fault : Option EditFault) (node : BaseNode) (r : Result NewNode EditFault) → MakesNode p fault node r
    → IfOk r (λ n. n.opened ≡ p)
made_opened p fault node (Ok n) h = h.2
made_opened p fault node (Err e) h = tt

-- ---- a refused call

abbrev LeavesAll : Pending → Pending → Call → Result (Unit {0}) EditFault → Type 0
LeavesAll old new d r = OnErr r ((calls : List Call) → IsNext old calls d → HoldsPools new.pools (batons_of new) calls d)

-- one that leaves the pools as they were
pub kept_left : (old new : Pending) (d : Call) (r : Result (Unit {0}) EditFault) → OnErr r (KeepsPools old new) → LeavesAll old new d r
kept_left old new d r same = OnErr_then r same (λ kept calls next. keeps_left old new calls d next.holds.batons kept)

-- one that leaves the whole edit
pub unchanged_left : (old new : Pending) (d : Call) (r : Result (Unit {0}) EditFault) → OnErr r (new ≡ old) → LeavesAll old new d r
unchanged_left old new d r same = kept_left old new d r (OnErr_then r same (λ e. subst (KeepsPools old) (sym e) (keeps_same old)))

-- one that gives a token, and leaves the pools where that had no baton
pub given_left : (old new : Pending) (c d : Call) (g : Given) (r : Result (Unit {0}) EditFault) → d ≡ c → given_by c ≡ Some g
    → is_abort c ≡ false → (batons_of old g.token ≡ None → OnErr r (KeepsPools old new)) → LeavesAll old new d r
given_left old new c d g r is gives going kept = err_by r (λ e bad calls next.
    keeps_left old new calls d next.holds.batons (at_err r e bad (kept (fresh_token old calls c d g is next gives going))))

-- one that says something
pub said_left : (old new : Pending) (c d : Call) (m : ℕ) (k : Kind) (strings : List (List ℕ)) (r : Result (Unit {0}) EditFault) → d ≡ c
    → is_abort c ≡ false → named_by c ≡ Some (m, k) → call_strings c m ≡ cond (nat_eq m m) strings []
    → OnErr r ((b : Baton) → batons_of old m ≡ Some b → NoteBegan m b strings old new) → LeavesAll old new d r
said_left old new c d m k strings r is going named brings said = OnErr_then r said (λ began calls next.
    let b = named_baton old calls c d m k is next going named in
    began_left old new calls d m b.0 strings next.holds.batons b.1
    (ap (λ (x : Call). call_strings x m) is ∙ brings ∙ ap (λ same. cond same strings []) (eq-eqb m m refl)) (began b.0 b.1))

-- ---- a call's result and the pools

pub ended_after : (mode : Mode) (edit : Edit) (nodes : List (Path × BaseNode)) (c : Call) (e : EditFault) → edit.stage ≡ Ended
    → PoolsAfter mode edit nodes c (Err e) edit
ended_after mode edit nodes c e is = record {
  first = λ w0 calls s going. absurd (ended_going (sym is ∙ s.stage going));
  later = λ calls d left. absurd (ended_refused (sym is ∙ left.0));
}
  where
    ended_going : Ended ≡ Going → ⊥
    ended_going h = cc

    ended_refused : Ended ≡ Refused → ⊥
    ended_refused h = cc

pub refused_after : (mode : Mode) (old new : Edit) (nodes : List (Path × BaseNode)) (c : Call) (r : Result (Unit {0}) EditFault) → old.stage ≡ Refused
    → ((calls : List Call) (d : Call) → IsLeft calls d old → LeavesPools c old new) → PoolsAfter mode old nodes c r new
refused_after mode old new nodes c r is later = record {
  first = err_by r (λ e bad w0 calls s going. absurd (refused_going (sym is ∙ s.stage going)));
  later = later;
}
  where
    refused_going : Refused ≡ Going → ⊥
    refused_going h = cc

pub going_after : (mode : Mode) (old new : Edit) (nodes : List (Path × BaseNode)) (c : Call) (r : Result (Unit {0}) EditFault) → old.stage ≡ Going
    → OnErr r (IsRefused new)
    → OnErr r ((w0 : WorkingCopy) (calls : List Call) → StandsAfter mode w0 old nodes calls → list_any is_last calls ≡ false
    → HoldsPools new.pending.pools (batons_of new.pending) calls c)
    → PoolsAfter mode old nodes c r new
going_after mode old new nodes c r is dead left = record {
  first = err_by r (λ e bad w0 calls s going. (at_err r e bad dead, at_err r e bad left w0 calls s going));
  later = λ calls d was. absurd (going_refused (sym is ∙ was.0));
}
  where
    going_refused : Going ≡ Refused → ⊥
    going_refused h = cc

-- a call that doesn't give up
pub leaves_other : (c : Call) (edit : Edit) → (c ≡ AbortEdit → ⊥) → LeavesPools c edit edit
leaves_other AbortEdit edit n = absurd (n refl)
leaves_other _ edit n = refl
