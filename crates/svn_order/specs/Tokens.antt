-- What is remembered of the tokens of an edit: of each its kind, whether it was closed, whether it had a text.
use Rattle.std.specs.Prelude.{ℕ, suc, zero, Bool, true, false, ◌&&◌, not, List, [], ◌∷◌, Option, Some, None, slice_get}
use Rattle.svn_types.specs.declared.kind.Kind.{Kind}
use Rattle.svn_types.specs.declared.kind.Kind.TheVariants.{File}
use Rattle.svn_order.specs.declared.tokens.GivenToken.{GivenToken}
use Rattle.svn_editor.specs.Calls.{kind_eq}

abbrev pub is_of_kind_in : Kind → Option GivenToken → Bool
is_of_kind_in k None = false
is_of_kind_in k (Some n) = kind_eq n.kind k

abbrev pub is_closed_in : Option GivenToken → Bool
is_closed_in None = false
is_closed_in (Some n) = n.is_closed

abbrev pub has_text_in : Option GivenToken → Bool
has_text_in None = false
has_text_in (Some n) = n.has_text

abbrev pub is_of_kind_at : List GivenToken → ℕ → Kind → Bool
is_of_kind_at tokens t k = is_of_kind_in k (slice_get tokens t)

abbrev pub is_closed_at : List GivenToken → ℕ → Bool
is_closed_at tokens t = is_closed_in (slice_get tokens t)

abbrev pub has_text_at : List GivenToken → ℕ → Bool
has_text_at tokens t = has_text_in (slice_get tokens t)

-- it was given to a file that isn't closed
abbrev pub is_unclosed_file : GivenToken → Bool
is_unclosed_file n = kind_eq n.kind File && not n.is_closed

-- a token that was just given
abbrev pub token_of : Kind → GivenToken
token_of k = record { kind = k; is_closed = false; has_text = false }

-- the token at a place changed
abbrev pub changed_at : (GivenToken → GivenToken) → List GivenToken → ℕ → List GivenToken
changed_at f [] t = []
changed_at f (n ∷ tokens) zero = f n ∷ tokens
changed_at f (n ∷ tokens) (suc t) = n ∷ changed_at f tokens t

abbrev pub with_closed : List GivenToken → ℕ → List GivenToken
with_closed = changed_at (λ n. record n { is_closed = true })

abbrev pub with_text : List GivenToken → ℕ → List GivenToken
with_text = changed_at (λ n. record n { has_text = true })
