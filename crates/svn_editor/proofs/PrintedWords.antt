-- What the word of a path is, from its key, what bytes are that are printed as they are, and the word of a token.
use Rattle.std.proofs.Common.{◌≡◌, ℕ, ◌+◌, ◌-◌, ◌/◌, ◌%◌, ◌^◌, ◌<◌, ◌≤◌, Bool, true, false, ◌&&◌}
use Rattle.std.proofs.Common.{List, [], ◌∷◌, ◌++◌, length, map, take, drop, set, get_or, append_assoc}
use Rattle.std.proofs.Common.{refl, sym, ap, ◌∙◌, arith, rules, true≢false}
use Rattle.std.specs.Prelude.{All, if◌then◌else◌, nat_le}
use Rattle.std.specs.List.{flat_map, list_all}
use Rattle.std.specs.Fmt.{decimal, digit_glyph}
use Rattle.std.specs.Str.{IsUtf8}
use Rattle.std.proofs.lemmas.Fmt.{IsAscii-decimal, length-decimal-le}
use Rattle.std.proofs.lemmas.Str.{IsUtf8-from_ascii}
use Rattle.std.proofs.lemmas.Str.Ascii.{IsAscii-cons, IsAscii-from_all}
use Rattle.std.proofs.lemmas.Bool.{and_parts}
use Rattle.std.proofs.lemmas.Bool.Decides.{nat_tests}
use Rattle.std.proofs.lemmas.List.Concat.{flat_map-append}
use Rattle.std.proofs.lemmas.List.Folds.{list_all_at}
use Rattle.std.proofs.lemmas.List.{append-nil, drop-set, drop_all, flat_map_more, map-append, take_more, take_rest}
use Rattle.svn_lists.proofs.Parts.{same_front}
use Rattle.svn_types.specs.Names.{Path, is_plain}
use Rattle.svn_types.specs.PathKeys.{path_key, is_plain_name, is_plain_path}
use Rattle.svn_types.specs.PathTexts.{path_text}
use Rattle.svn_editor.specs.Words.{escaped, is_shown, path_byte, path_word, token_word}

-- ---- the names of a path, printed from its key

-- the first name, the others each after the byte 1, and that byte
key_ends : (n : List ℕ) (p : Path) → path_key (n ∷ p) ≡ (n ++ flat_map (λ m. 1 ∷ m) p) ++ 1 ∷ []
key_ends n [] = sym (append_assoc n [] (1 ∷ []))
key_ends n (m ∷ p) =
    ap (λ (l : List ℕ). n ++ 1 ∷ l) (key_ends m p) ∙ sym (append_assoc n (1 ∷ m ++ flat_map (λ m. 1 ∷ m) p) (1 ∷ []))

same_byte : (b : ℕ) (rest : Bool) → (is_plain b && rest) ≡ true → path_byte b ≡ b
same_byte b rest h = grind (arith, h)

same_bytes : (n : List ℕ) → list_all is_plain n ≡ true → map path_byte n ≡ n
same_bytes [] h = refl
same_bytes (b ∷ n) h =
    (λ i. same_byte b (list_all is_plain n) h i ∷ same_bytes n (and_parts (is_plain b) (list_all is_plain n) h).1 i)

slashed_names : (p : Path) → is_plain_path p ≡ true → map path_byte (flat_map (λ m. 1 ∷ m) p) ≡ flat_map (λ m. 47 ∷ m) p
slashed_names [] h = refl
slashed_names (m ∷ p) h =
    let parts = and_parts (is_plain_name m) (is_plain_path p) h in
    let plain = and_parts (nat_le 1 (length m)) (list_all is_plain m) parts.0 in
    map-append path_byte (1 ∷ m) (flat_map (λ m. 1 ∷ m) p)
    ∙ (λ i. 47 ∷ same_bytes m plain.1 i ++ slashed_names p parts.1 i)

names_text : (n : List ℕ) (p : Path) → is_plain_path (n ∷ p) ≡ true
    → map path_byte (n ++ flat_map (λ m. 1 ∷ m) p) ≡ path_text (n ∷ p)
names_text n p h =
    let parts = and_parts (is_plain_name n) (is_plain_path p) h in
    let plain = and_parts (nat_le 1 (length n)) (list_all is_plain n) parts.0 in
    map-append path_byte n (flat_map (λ m. 1 ∷ m) p) ∙ (λ i. same_bytes n plain.1 i ++ slashed_names p parts.1 i)

pub printed_names : (p : Path) (front : List ℕ) (last : ℕ) → is_plain_path p ≡ true → path_key p ≡ front ++ last ∷ []
    → flat_map escaped (map path_byte front) ≡ path_word p
printed_names [] [] last h e = absurd cc
printed_names [] (b ∷ front) last h e = absurd cc
printed_names ([] ∷ p) front last h e = absurd cc
printed_names ((b ∷ n) ∷ p) front last h e =
    ap (λ (l : List ℕ). flat_map escaped (map path_byte l))
    (same_front front ((b ∷ n) ++ flat_map (λ m. 1 ∷ m) p) last 1 (sym e ∙ key_ends (b ∷ n) p))
    ∙ ap (flat_map escaped) (names_text (b ∷ n) p h)

-- ---- bytes that are printed as they are

pub shown_text : (bs : List ℕ) → list_all is_shown bs ≡ true → flat_map escaped bs ≡ bs
shown_text [] h = refl
shown_text (b ∷ bs) h =
    let parts = and_parts (is_shown b) (list_all is_shown bs) h in
    ap (λ (s : Bool). (if s then b ∷ [] else 37 ∷ digit_glyph true (b / 16) ∷ digit_glyph true (b % 16) ∷ []) ++ flat_map escaped bs) parts.0
    ∙ ap (λ (l : List ℕ). b ∷ l) (shown_text bs parts.1)

shown_small : (b : ℕ) → is_shown b ≡ true → b < 128
shown_small b h = grind (arith, nat_tests)

passes : (x all : Bool) → (x ≡ false → all ≡ false) → all ≡ true → x ≡ true
passes true all f h = refl
passes false all f h = absurd (true≢false (sym h ∙ f refl))

shown_all : (bs : List ℕ) → list_all is_shown bs ≡ true → All (λ b. b < 128) bs
shown_all bs h = λ k d in_list. shown_small (get_or bs k d)
    (passes (is_shown (get_or bs k d)) (list_all is_shown bs) (λ e. list_all_at is_shown bs k d in_list e) h)

pub shown_utf8 : (bs : List ℕ) → list_all is_shown bs ≡ true → IsUtf8 bs
shown_utf8 bs h = IsUtf8-from_ascii bs (IsAscii-from_all bs (shown_all bs h))

-- ---- a word that is printed part by part

-- one byte more
pub escaped_more : (bs : List ℕ) (i : ℕ) → i < length bs
    → flat_map escaped (take (i + 1) bs) ≡ flat_map escaped (take i bs) ++ escaped (get_or bs i 0)
escaped_more bs i h = ap (flat_map escaped) (take_more bs i 0 h) ∙ sym (flat_map_more escaped [] (take i bs) (get_or bs i 0))

-- what is printed after a part
pub behind_piece : (done rest piece behind all : List ℕ) → rest ≡ piece ++ behind → done ++ flat_map escaped rest ≡ all
    → (done ++ flat_map escaped piece) ++ flat_map escaped behind ≡ all
behind_piece done rest piece behind all parts e =
    append_assoc done (flat_map escaped piece) (flat_map escaped behind)
    ∙ ap (λ (l : List ℕ). done ++ l) (sym (flat_map-append escaped piece behind) ∙ ap (flat_map escaped) (sym parts)) ∙ e

-- ---- the word of a token, its digits at the end of a text and the sign before them

pub few_digits : (n : ℕ) → n < 2 ^ 64 → length (decimal n) ≤ 20
few_digits n h = search (rules, length-decimal-le 20)

pub token_utf8 : (n : ℕ) → n < 2 ^ 64 → IsUtf8 (token_word n)
token_utf8 n h = IsUtf8-from_ascii (token_word n) (IsAscii-cons 35 (decimal n) (omega arith) (IsAscii-decimal n h))

pub token_at_end : (old text : List ℕ) (start n : ℕ) → length old ≤ 21 → 0 < start → start ≤ length text
    → drop start text ≡ decimal n ++ drop 21 old
    → take (length (set text (start - 1) 35) - (start - 1)) (drop (start - 1) (set text (start - 1) 35)) ≡ token_word n
token_at_end old text start n short some within digits =
    let next : (start - 1) + 1 ≡ start = omega arith in
    take_rest (set text (start - 1) 35) (start - 1) ∙ drop-set text (start - 1) 35 (omega arith)
    ∙ ap (λ (l : List ℕ). 35 ∷ l)
    (ap (λ (k : ℕ). drop k text) next ∙ digits ∙ ap (λ (l : List ℕ). decimal n ++ l) (drop_all 21 old short) ∙ append-nil (decimal n))
