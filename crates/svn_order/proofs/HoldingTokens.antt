-- The tokens and the stage of an order check after one more call.
use Rattle.std.proofs.Common.{◌≡◌, ℕ, suc, zero, ◌<◌, Bool, true, false, ◌||◌, List, [], ◌∷◌, ◌++◌, length, refl}
use Rattle.std.proofs.Common.{sym, ◌∙◌, ap, subst, inl, inr, true≢false, arith}
use Rattle.std.specs.Prelude.{Some, None, ◌⊎◌, slice_get, nat_eq}
use Rattle.std.specs.List.{list_any}
use Rattle.std.proofs.lemmas.Option.{same_Some, slice_get_within}
use Rattle.std.proofs.Math.Bool.{or-true}
use Rattle.std.proofs.lemmas.Bool.{eq-eqb, eqb-true}
use Rattle.svn_lists.proofs.Options.{some-none}
use Rattle.svn_lists.proofs.Places.{slice_get-append, slice_get_push_cases, slice_get_push_at}
use Rattle.svn_lists.proofs.Somewhere.{any_push, any_still}
use Rattle.svn_editor.specs.declared.call.Call.{Call}
use Rattle.svn_order.specs.declared.tokens.GivenToken.{GivenToken}
use Rattle.svn_order.specs.declared.order.Stage.TheVariants.{During}
use Rattle.svn_editor.specs.Calls.{Given, given_by, closes, applies_text, all_given, given, is_closed, is_of_kind}
use Rattle.svn_editor.specs.Order.{is_target_late}
use Rattle.svn_order.specs.Tokens.{token_of, changed_at, with_closed, with_text}
use Rattle.svn_order.specs.StandsAfter.{stage_after, IsTokenOf}
use Rattle.svn_editor.proofs.OneMore.{given_none, given_one}
use Rattle.svn_order.proofs.Sound.{IsSound}
use Rattle.svn_order.proofs.OpenDirectories.{new_unclosed, new_textless}

-- ---- the stage

pub during : (calls : List Call) (c : Call) → stage_after (calls ++ c ∷ []) ≡ During
during [] c = refl
during (x ∷ calls) c = refl

-- what isn't the target's call comes after it
pub begun : (calls : List Call) (c : Call) → is_target_late [] c ≡ true → is_target_late calls c ≡ false → stage_after calls ≡ During
begun [] c t h = absurd (true≢false (sym t ∙ h))
begun (x ∷ calls) c t h = refl

-- ---- the token at a place

pub given_before : (calls : List Call) (c : Call) (g : Given) (t : ℕ) → given_by c ≡ Some g → t < length (all_given calls)
    → given (calls ++ c ∷ []) t ≡ given calls t
given_before calls c g t e h = ap (λ gs. slice_get gs t) (given_one calls c g e) ∙ slice_get-append (all_given calls) (g ∷ []) t h

pub given_now : (calls : List Call) (c : Call) (g : Given) (t : ℕ) → given_by c ≡ Some g → t ≡ length (all_given calls)
    → given (calls ++ c ∷ []) t ≡ Some g
given_now calls c g t e h = ap (λ gs. slice_get gs t) (given_one calls c g e) ∙ slice_get_push_at (all_given calls) g t h

pub given_still : (calls : List Call) (c : Call) (t : ℕ) → given_by c ≡ None → given (calls ++ c ∷ []) t ≡ given calls t
given_still calls c t e = ap (λ gs. slice_get gs t) (given_none calls c e)

pub length-changed : (f : GivenToken → GivenToken) (ns : List GivenToken) (i : ℕ) → length (changed_at f ns i) ≡ length ns
length-changed f [] i = refl
length-changed f (n ∷ ns) zero = refl
length-changed f (n ∷ ns) (suc i) = ap suc (length-changed f ns i)

changed_same : (f : GivenToken → GivenToken) (ns : List GivenToken) (i : ℕ) (n : GivenToken) → slice_get (changed_at f ns i) i ≡ Some n
    → (m : GivenToken) × (slice_get ns i ≡ Some m) × (f m ≡ n)
changed_same f [] i n h = absurd (some-none n (sym h))
changed_same f (x ∷ ns) zero n h = (x, refl, same_Some (f x) n h)
changed_same f (x ∷ ns) (suc i) n h = changed_same f ns i n h

changed_other : (f : GivenToken → GivenToken) (ns : List GivenToken) (i j : ℕ) → (i ≡ j → ⊥)
    → slice_get (changed_at f ns i) j ≡ slice_get ns j
changed_other f [] i j h = refl
changed_other f (x ∷ ns) zero zero h = absurd (h refl)
changed_other f (x ∷ ns) zero (suc j) h = refl
changed_other f (x ∷ ns) (suc i) zero h = refl
changed_other f (x ∷ ns) (suc i) (suc j) h = changed_other f ns i j (λ e. h (ap suc e))

-- ---- the tokens

abbrev pub AreTokens : List GivenToken → List Call → Type 0
AreTokens ns calls = (t : ℕ) (n : GivenToken) → slice_get ns t ≡ Some n → IsTokenOf calls t n

-- a token that a call doesn't concern
token_still : (calls : List Call) (c : Call) (t : ℕ) (n : GivenToken) → given_by c ≡ None → closes t c ≡ false → applies_text t c ≡ false
    → IsTokenOf calls t n → IsTokenOf (calls ++ c ∷ []) t n
token_still calls c t n e no_close no_text was = record {
  kind = λ k. ap (is_of_kind k) (given_still calls c t e) ∙ was.kind k;
  closed = any_still (closes t) calls c no_close ∙ was.closed;
  text = any_still (applies_text t) calls c no_text ∙ was.text;
}

pub tokens_still : (ns : List GivenToken) (calls : List Call) (c : Call) → given_by c ≡ None → ((t : ℕ) → closes t c ≡ false)
    → ((t : ℕ) → applies_text t c ≡ false) → AreTokens ns calls → AreTokens ns (calls ++ c ∷ [])
tokens_still ns calls c e no_close no_text h t n at = token_still calls c t n e (no_close t) (no_text t) (h t n at)

pub tokens_given : (ns : List GivenToken) (calls : List Call) (c : Call) (g : Given) → IsSound calls → length ns ≡ length (all_given calls)
    → given_by c ≡ Some g → ((t : ℕ) → closes t c ≡ false) → ((t : ℕ) → applies_text t c ≡ false) → AreTokens ns calls
    → AreTokens (ns ++ token_of g.kind ∷ []) (calls ++ c ∷ [])
tokens_given ns calls c g sound count e no_close no_text h t n at = by (slice_get_push_cases ns (token_of g.kind) t n at)
  where
    by : (slice_get ns t ≡ Some n) ⊎ ((t ≡ length ns) × (token_of g.kind ≡ n)) → IsTokenOf (calls ++ c ∷ []) t n
    by (inl old) =
        let was = h t n old in
        let l : t < length ns = slice_get_within ns t n old in
        record {
          kind = λ k. ap (is_of_kind k) (given_before calls c g t e (omega arith)) ∙ was.kind k;
          closed = any_still (closes t) calls c (no_close t) ∙ was.closed;
          text = any_still (applies_text t) calls c (no_text t) ∙ was.text;
        }
    by (inr new) = subst (IsTokenOf (calls ++ c ∷ []) t) new.1 record {
      kind = λ k. ap (is_of_kind k) (given_now calls c g t e (new.0 ∙ count));
      closed = any_still (closes t) calls c (no_close t) ∙ new_unclosed calls t sound (omega (arith, new.0));
      text = any_still (applies_text t) calls c (no_text t) ∙ new_textless calls t sound (omega (arith, new.0));
    }

-- a call that says something of one token alone, where that is marked so
tokens_marked : (mark : GivenToken → GivenToken) (ns : List GivenToken) (calls : List Call) (c : Call) (i : ℕ) → given_by c ≡ None
    → ((t : ℕ) → nat_eq i t ≡ false → closes t c ≡ false) → ((t : ℕ) → nat_eq i t ≡ false → applies_text t c ≡ false)
    → ((t : ℕ) (n : GivenToken) → nat_eq i t ≡ true → IsTokenOf calls t n → IsTokenOf (calls ++ c ∷ []) t (mark n))
    → AreTokens ns calls → AreTokens (changed_at mark ns i) (calls ++ c ∷ [])
tokens_marked mark ns calls c i e no_close no_text marked h t n at = by (nat_eq i t) refl
  where
    by : (b : Bool) → nat_eq i t ≡ b → IsTokenOf (calls ++ c ∷ []) t n
    by true q =
        let same : i ≡ t = eqb-true i t q in
        let r = changed_same mark ns t n (ap (λ j. slice_get (changed_at mark ns j) t) (sym same) ∙ at) in
        subst (IsTokenOf (calls ++ c ∷ []) t) r.2 (marked t r.0 q (h t r.0 r.1))
    by false q =
        token_still calls c t n e (no_close t q) (no_text t q)
        (h t n (sym (changed_other mark ns i t (λ s. true≢false (sym (eq-eqb i t s) ∙ q))) ∙ at))

pub tokens_closed : (ns : List GivenToken) (calls : List Call) (c : Call) (i : ℕ) → given_by c ≡ None → ((t : ℕ) → closes t c ≡ nat_eq i t)
    → ((t : ℕ) → applies_text t c ≡ false) → AreTokens ns calls → AreTokens (with_closed ns i) (calls ++ c ∷ [])
tokens_closed ns calls c i e close no_text =
    tokens_marked (λ n. record n { is_closed = true }) ns calls c i e (λ t q. close t ∙ q) (λ t q. no_text t)
    (λ t n q was. record {
      kind = λ k. ap (is_of_kind k) (given_still calls c t e) ∙ was.kind k;
      closed = any_push (closes t) calls c ∙ ap (λ b. is_closed calls t || b) (close t ∙ q) ∙ or-true (is_closed calls t);
      text = any_still (applies_text t) calls c (no_text t) ∙ was.text;
    })

pub tokens_text : (ns : List GivenToken) (calls : List Call) (c : Call) (i : ℕ) → given_by c ≡ None → ((t : ℕ) → closes t c ≡ false)
    → ((t : ℕ) → applies_text t c ≡ nat_eq i t) → AreTokens ns calls → AreTokens (with_text ns i) (calls ++ c ∷ [])
tokens_text ns calls c i e no_close text =
    tokens_marked (λ n. record n { has_text = true }) ns calls c i e (λ t q. no_close t) (λ t q. text t ∙ q)
    (λ t n q was. record {
      kind = λ k. ap (is_of_kind k) (given_still calls c t e) ∙ was.kind k;
      closed = any_still (closes t) calls c (no_close t) ∙ was.closed;
      text =
          any_push (applies_text t) calls c ∙ ap (λ b. list_any (applies_text t) calls || b) (text t ∙ q)
          ∙ or-true (list_any (applies_text t) calls);
    })
