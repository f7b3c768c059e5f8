-- What is noted of the text that an open file has in the copy stays so, since no call but its close changes the node there.
use Rattle.std.proofs.Common.{◌≡◌, ◌≢◌, ℕ, true, false, true≢false, ◌||◌, List, [], ◌∷◌, ◌++◌, length, refl, sym, ◌∙◌, ap, subst, inl, inr}
use Rattle.std.specs.Prelude.{Option, Some, None, Result, OnOk, IfSome, is_some, nat_eq, ◌⊎◌}
use Rattle.std.proofs.lemmas.Bool.{cases_eq, false_from_ne_true}
use Rattle.std.proofs.lemmas.Option.{none-some, same_Some}
use Rattle.md5.specs.Md5.{md5}
use Rattle.std.proofs.Math.Bool.{or-true}
use Rattle.svn_lists.proofs.Results.{OnOk_then}
use Rattle.svn_lists.proofs.Somewhere.{any_push}
use Rattle.svn_types.specs.declared.kind.Kind.{Kind}
use Rattle.svn_types.specs.declared.kind.Kind.TheVariants.{File, Directory}
use Rattle.svn_types.specs.Names.{Path}
use Rattle.svn_editor.specs.declared.call.Call.{Call}
use Rattle.svn_editor.specs.declared.call.Call.TheVariants.{AbortEdit}
use Rattle.svn_editor.specs.declared.fault.EditFault.{EditFault}
use Rattle.svn_editor.specs.Calls.{Given, given_by, given, given_path, all_given, kind_eq, closes, is_closed, is_abort, is_last, named_by}
use Rattle.svn_editor.specs.declared.mode.Mode.{Mode}
use Rattle.svn_editor.proofs.Accepted.{IsAccepted, accepted}
use Rattle.svn_order.proofs.Sound.{numbered_next}
use Rattle.svn_order.proofs.Lawful.{sound}
use Rattle.svn_order.proofs.HoldingTokens.{given_now, given_still}
use Rattle.svn_model.specs.declared.base_node.BaseNode.{BaseNode}
use Rattle.svn_model.specs.Nodes.{get_in, node_text}
use Rattle.svn_model.specs.Effects.{effect}
use Rattle.law_copy.proofs.OnePath.{pathed}
use Rattle.law_copy.proofs.FilesStand.{file_kept}
use Rattle.std.specs.Map.{remove_entry}
use Rattle.svn_serials.specs.Serials.{IsRising, get}
use Rattle.svn_serials.proofs.Pairs.{Updates, updates_removed}
use Rattle.svn_edit.specs.declared.baton.Baton.{Baton}
use Rattle.svn_edit.specs.declared.baton.Note.{Note}
use Rattle.svn_edit.specs.declared.pending.Pending.{Pending}
use Rattle.svn_edit.specs.Applying.{Batons, BatonMap, BatonNoted, MakesBaton, batons_of, IsNoted, KeepsBases, OpensBase, Holds, IsNext}
use Rattle.svn_nodes.specs.NodeTests.{IsSumOf}
use Rattle.svn_edit.proofs.HeldBatons.{given_other, open_given}
use Rattle.svn_edit.proofs.Closes.{named_baton}

pub file_of : (k : Kind) → kind_eq k File ≡ true → k ≡ File
file_of File h = refl
file_of Directory h = absurd (true≢false (sym h))

not_abort : (c : Call) → is_last c ≡ false → is_abort c ≡ false
not_abort AbortEdit h = h
not_abort _ h = refl

-- ---- a call that is taken

module _ (mode : Mode) (old new : Pending) (calls : List Call) (d : Call) (nodes nodes2 : List (Path × BaseNode)) (next : IsNext old calls d)
    (going : is_last d ≡ false) (copy : (p : Path) → get_in nodes2 p ≡ effect mode calls d (get_in nodes) p)
    (holds : Holds new (calls ++ d ∷ [])) (keeps : KeepsBases d (batons_of old) (batons_of new))
    (opens : OpensBase d (batons_of new) nodes2) (noted : IsNoted calls (batons_of old) nodes) where
  taken : IsAccepted calls d
  taken = accepted calls d (not_abort d going) next.in_order

  -- a file that was open before
  before : (t : ℕ) (b : Baton) (g : Given) → batons_of new t ≡ Some b → given calls t ≡ Some g → g.kind ≡ File
      → is_closed (calls ++ d ∷ []) t ≡ false → ((x : Given) → given_by d ≡ Some x → x.token ≢ t) → IsSumOf b.base nodes2 b.path
  before t b g there is file unclosed apart =
      let kept = keeps t b there apart in
      let was : kept.0.path ≡ g.path = (next.holds.batons.each t kept.0 kept.1).path ∙ ap given_path is in
      let open_before : is_closed calls t ≡ false =
      false_from_ne_true (is_closed calls t) (λ e. true≢false (sym (any_push (closes t) calls d ∙ ap (λ x. x || closes t d) e)
      ∙ unclosed)) in
      let still : closes t d ≡ false =
      false_from_ne_true (closes t d) (λ e. true≢false (sym (any_push (closes t) calls d ∙ ap (λ x. is_closed calls t || x) e
      ∙ or-true (is_closed calls t)) ∙ unclosed)) in
      let same : get_in nodes kept.0.path ≡ get_in nodes2 b.path =
      ap (get_in nodes) was
      ∙ sym (copy g.path
      ∙ file_kept mode calls (get_in nodes) d (sound calls next.lawful) (pathed calls next.lawful) taken t g is file open_before still)
      ∙ ap (get_in nodes2) (sym was ∙ kept.2) in
      subst (λ (o : Option (List ℕ)). IsSumOf o nodes2 b.path) kept.3
      (subst (λ (n : Option BaseNode). IfSome kept.0.base (λ s. s ≡ md5 (node_text n))) same (noted t kept.0 g kept.1 is file))

  pub noted_more : IsNoted (calls ++ d ∷ []) (batons_of new) nodes2
  noted_more t b g there is file = by (given_by d) refl
    where
      unclosed : is_closed (calls ++ d ∷ []) t ≡ false
      unclosed = (open_given (calls ++ d ∷ []) t (sym (holds.batons.opened t) ∙ ap is_some there)).2

      by : (o : Option Given) → given_by d ≡ o → IsSumOf b.base nodes2 b.path
      by None e = before t b g there (sym (given_still calls d t e) ∙ is) file unclosed (λ x f. absurd (none-some x (sym e ∙ f)))
      by (Some x) e = own (cases_eq t x.token)
        where
          token : x.token ≡ length (all_given calls)
          token = numbered_next calls d x taken e

          own : (t ≡ x.token) ⊎ (t ≢ x.token) → IsSumOf b.base nodes2 b.path
          own (inl same) =
              let both : x ≡ g = same_Some x g (sym (given_now calls d x t e (same ∙ token)) ∙ is) in
              let path : b.path ≡ x.path = (holds.batons.each t b there).path ∙ ap given_path is ∙ ap (λ (y : Given). y.path) (sym both) in
              subst (λ (p : Path). IsSumOf b.base nodes2 p) (sym path)
              (opens x b e (ap (λ (y : Given). y.kind) both ∙ file) (ap (batons_of new) (sym same) ∙ there))
          own (inr away) =
              before t b g there (sym (given_other calls d x t e (λ h. away (h ∙ sym token))) ∙ is) file unclosed
              (λ y f h. away (sym h ∙ ap (λ (z : Given). z.token) (same_Some y x (sym f ∙ e))))

-- ---- what a call keeps

-- a map from which one was taken has no other
pub removed_others : (m n : BatonMap) (t : ℕ) → IsRising m → n ≡ remove_entry (nat_eq t) m → (u : ℕ) (b : Baton) → get n u ≡ Some b
    → get m u ≡ Some b
removed_others m n t rising removed u b there = by (cases_eq u t)
  where
    updates : Updates m n t None
    updates = updates_removed m n t rising removed

    by : (u ≡ t) ⊎ (u ≢ t) → get m u ≡ Some b
    by (inl same) = absurd (none-some b (sym (ap (get n) same ∙ updates.here) ∙ there))
    by (inr away) = sym (updates.away u away) ∙ there

abbrev Kept : Pending → Pending → Call → Result (Unit {0}) EditFault → Type 0
Kept old new d r =
    OnOk r ((calls : List Call) → IsNext old calls d → is_last d ≡ false → KeepsBases d (batons_of old) (batons_of new))

pub made_bases : (old new : Pending) (c d : Call) (g : Given) (r : Result (Unit {0}) EditFault) (beneath : ℕ) → d ≡ c → given_by c ≡ Some g
    → OnOk r (MakesBaton beneath g.path g.token old new) → Kept old new d r
made_bases old new c d g r beneath is gives made = OnOk_then r made (λ m calls next last u b there apart. (
  b,
  sym (m.tokens u (λ same. apart g (ap given_by is ∙ gives) (sym same))) ∙ there,
  refl,
  refl,
))

pub said_bases : (old new : Pending) (c d : Call) (m : ℕ) (k : Kind) (note : Note) (strings : List (List ℕ)) (r : Result (Unit {0}) EditFault)
    → d ≡ c → is_abort c ≡ false → named_by c ≡ Some (m, k)
    → OnOk r ((b : Baton) → batons_of old m ≡ Some b → BatonNoted m b note strings old.pools (batons_of old) new.pools (batons_of new))
    → Kept old new d r
said_bases old new c d m k note strings r is going named notes = OnOk_then r notes (λ n calls next last u b there apart.
    let x = named_baton old calls c d m k is next going named in
    let y = n x.0 x.1 in
    by x.0 x.1 y u b there (cases_eq u m))
  where
    by : (x : Baton) → batons_of old m ≡ Some x → BatonNoted m x note strings old.pools (batons_of old) new.pools (batons_of new)
        → (u : ℕ) (b : Baton) → batons_of new u ≡ Some b → (u ≡ m) ⊎ (u ≢ m)
        → (e : Baton) × (batons_of old u ≡ Some e) × (e.path ≡ b.path) × (e.base ≡ b.base)
    by x at y u b there (inl same) =
        let is_b : y.baton ≡ b = same_Some y.baton b (sym y.token ∙ ap (batons_of new) (sym same) ∙ there) in (
          x,
          ap (batons_of old) same ∙ at,
          sym y.said.path ∙ ap (λ (z : Baton). z.path) is_b,
          sym y.said.base ∙ ap (λ (z : Baton). z.base) is_b,
        )
    by x at y u b there (inr away) = (b, sym (y.tokens u away) ∙ there, refl, refl)

pub gone_bases : (old new : Pending) (d : Call) (r : Result (Unit {0}) EditFault)
    → OnOk r ((u : ℕ) (b : Baton) → batons_of new u ≡ Some b → batons_of old u ≡ Some b) → Kept old new d r
gone_bases old new d r others = OnOk_then r others (λ h calls next last u b there apart. (b, h u b there, refl, refl))

pub still_bases : (old : Pending) (d : Call) → KeepsBases d (batons_of old) (batons_of old)
still_bases old d u b there apart = (b, there, refl, refl)

-- ---- what a call opens

pub no_base : (c d : Call) (at : Batons) (nodes : List (Path × BaseNode)) → d ≡ c → given_by c ≡ None → OpensBase d at nodes
no_base c d at nodes is none g b gives = absurd (none-some g (sym (ap given_by is ∙ none) ∙ gives))

pub no_file_base : (c d : Call) (g : Given) (at : Batons) (nodes : List (Path × BaseNode)) → d ≡ c → given_by c ≡ Some g
    → g.kind ≡ Directory → OpensBase d at nodes
no_file_base c d g at nodes is given_as kind x b gives file =
    let both : x ≡ g = same_Some x g (sym gives ∙ ap given_by is ∙ given_as) in
    absurd (true≢false (ap (λ k. kind_eq k File) (sym file ∙ ap (λ (y : Given). y.kind) both ∙ kind)))

pub file_base : (c d : Call) (g : Given) (at : Batons) (nodes : List (Path × BaseNode)) (r : Result (Unit {0}) EditFault) → d ≡ c
    → given_by c ≡ Some g → OnOk r ((b : Baton) → at g.token ≡ Some b → IsSumOf b.base nodes g.path) → OnOk r (OpensBase d at nodes)
file_base c d g at nodes r is given_as base = OnOk_then r base (λ h x b gives file there.
    let both : x ≡ g = same_Some x g (sym gives ∙ ap given_by is ∙ given_as) in
    subst (λ (p : Path). IsSumOf b.base nodes p) (ap (λ (y : Given). y.path) (sym both))
    (h b (ap (λ (y : Given). at y.token) (sym both) ∙ there)))

-- nothing is noted
pub sum_of_none : (o : Option (List ℕ)) (nodes : List (Path × BaseNode)) (p : Path) → o ≡ None → IsSumOf o nodes p
sum_of_none o nodes p none = subst (λ (x : Option (List ℕ)). IsSumOf x nodes p) (sym none) tt
