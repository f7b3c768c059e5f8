-- Places that are looked at one by one, and a connection on which nothing came.
use Rattle.std.proofs.Common.{◌≡◌, ℕ, ◌+◌, true, List, [], ◌∷◌, ◌++◌, map, take, Option, Some, None, refl, sym, ap, ◌∙◌, append-nil}
use Rattle.std.specs.Prelude.{filter_map}
use Rattle.std.specs.List.{cons_option}
use Rattle.std.proofs.lemmas.List.{map-append}
use Rattle.svn_lists.proofs.Filters.{filter_map-push}
use Rattle.svn_wire.specs.Items.{tokens_at}
use Rattle.svn_wire.specs.Tokens.{token_from}
use Rattle.svn_ask.specs.declared.opening.Speaker.{Speaker}
use Rattle.svn_live_audit.specs.Conversations.{is_ready, unheard}

-- one more element, and what is made of it
pub looked_at : {X Z : Type 0} (f : X → Option Z) (xs : List X) (i : ℕ) (x : X) (done next : List Z) → take (i + 1) xs ≡ take i xs ++ x ∷ []
    → done ≡ filter_map f (take i xs) → next ≡ done ++ cons_option (f x) [] → next ≡ filter_map f (take (i + 1) xs)
looked_at f xs i x done next more so same =
    same ∙ ap (λ l. l ++ cons_option (f x) []) so ∙ sym (filter_map-push f (take i xs) x) ∙ ap (filter_map f) (sym more)

-- the values of a list with one more at its end, or none
pub one_more : {X Z : Type 0} (value : X → Z) (done new : List X) (x : X) (o : Option Z) → new ≡ done ++ x ∷ [] → o ≡ Some (value x)
    → map value new ≡ map value done ++ cons_option o []
one_more value done new x o is some =
    ap (map value) is ∙ map-append value done (x ∷ []) ∙ ap (λ p. map value done ++ cons_option p []) (sym some)

pub none_more : {X Z : Type 0} (value : X → Z) (done new : List X) (o : Option Z) → new ≡ done → o ≡ None
    → map value new ≡ map value done ++ cons_option o []
none_more value done new o is none =
    ap (map value) is ∙ sym (append-nil (map value done)) ∙ ap (λ p. map value done ++ cons_option p []) (sym none)

-- no item is in no bytes
pub ready_at_first : (speaker : Speaker) → is_ready (unheard speaker) ≡ true
unfolding tokens_at token_from
ready_at_first speaker = refl
