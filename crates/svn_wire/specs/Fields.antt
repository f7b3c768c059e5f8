-- The fields of a tuple, in their order: each is at the front of the tokens, and what is after it is left. Fields that aren't known come last, and
-- are passed over.
--     command_of tokens      the name of a command or an answer, and its fields with what closes them
--     fields_of name tokens      the fields of one of that name
use Rattle.std.specs.Prelude.{ℕ, Bool, true, false, List, ◌∷◌, drop, codes, bytes_eq, Option, Some, None, option_and_then, if◌then◌else◌}
use Rattle.std.specs.List.{list_any, prefix_len, take_while}
use Rattle.svn_wire.specs.declared.token.Token.{Token}
use Rattle.svn_wire.specs.declared.token.Token.TheVariants.{Open, Close, Number, Word, Text}

-- a field, and what is made of it and of what is after it
infixl 10 ◌>>=◌
abbrev pub ◌>>=◌ : {A B : Type 0} → Option A → (A → Option B) → Option B
read >>= next = option_and_then next read

abbrev pub number_field : List Token → Option (ℕ × List Token)
number_field (Number n ∷ ts) = Some (n, ts)
number_field _ = None

abbrev pub text_field : List Token → Option (List ℕ × List Token)
text_field (Text text ∷ ts) = Some (text, ts)
text_field _ = None

abbrev pub word_field : List Token → Option (List ℕ × List Token)
word_field (Word word ∷ ts) = Some (word, ts)
word_field _ = None

abbrev pub as_bool : List ℕ → List Token → Option (Bool × List Token)
as_bool word ts =
    if bytes_eq word (codes "true") then Some (true, ts)
    else if bytes_eq word (codes "false") then Some (false, ts)
    else None

abbrev pub bool_field : List Token → Option (Bool × List Token)
bool_field tokens = option_and_then (λ w. as_bool w.0 w.1) (word_field tokens)

-- a list of a number or of nothing
abbrev pub optional_number : List Token → Option (Option ℕ × List Token)
optional_number (Open ∷ Close ∷ ts) = Some (None, ts)
optional_number (Open ∷ Number n ∷ Close ∷ ts) = Some (Some n, ts)
optional_number _ = None

-- what is in the list at the front, with what closes it
abbrev pub list_field : List Token → Option (List Token)
list_field (Open ∷ ts) = Some ts
list_field _ = None

-- ---- lists of words

abbrev pub is_word_token : Token → Bool
is_word_token (Word word) = true
is_word_token _ = false

abbrev pub closed : List Token → List Token → Option (List Token × List Token)
closed words (Close ∷ ts) = Some (words, ts)
closed words _ = None

-- the words of the list at the front, which has nothing else
abbrev pub word_list : List Token → Option (List Token × List Token)
word_list (Open ∷ ts) = closed (take_while is_word_token ts) (drop (prefix_len is_word_token ts) ts)
word_list _ = None

abbrev pub is_the_word : List ℕ → Token → Bool
is_the_word name (Word word) = bytes_eq word name
is_the_word name _ = false

-- one of them is this word
abbrev pub has_word : List Token → List ℕ → Bool
has_word words name = list_any (is_the_word name) words

-- ---- commands

-- a command: its name, and its fields with what closes them
abbrev pub command_of : List Token → Option (List ℕ × List Token)
command_of (Open ∷ Word name ∷ Open ∷ fields) = Some (name, fields)
command_of _ = None

abbrev pub fields_of : List ℕ → List Token → Option (List Token)
fields_of name tokens = command_of tokens >>= λ c. if bytes_eq c.0 name then Some c.1 else None

-- `set-path`: path, revision, whether to start empty
unfoldable pub set_path_of : List Token → Option (List ℕ × ℕ × Bool)
set_path_of fields = do
  path ← text_field fields
  rev ← number_field path.1
  empty ← bool_field rev.1
  Some (path.0, rev.0, empty.0)
