-- URLs, read as they were written.
use Rattle.std.proofs.Common.{◌≡◌, ℕ, ◌+◌, ◌/◌, ◌<◌, ◌≤◌, true, false, ltb, inl, inr, List, [], ◌∷◌, ◌++◌, length, Some, Ok, IsUtf8, All, refl, sym, ap, ap₂, ◌∙◌, subst, arith}
use Rattle.std.specs.List.{flat_map}
use Rattle.std.proofs.Math.Seq.{take-append_seam, drop-append_seam}
use Rattle.std.proofs.lemmas.Bool.{and_parts, cond_both, ltb-true}
use Rattle.std.proofs.lemmas.List.Elements.{All-nil, All-cons, All-append}
use Rattle.std.proofs.lemmas.Str.{is_utf8-from_IsUtf8}
use lib.Utf8.{scalar, scalars, scalar_cases, next, encode, encodes}
use Rattle.percent_encoding.specs.AsciiSet.{contains, should_percent_encode}
use Rattle.percent_encoding.specs.Percent.{percent_encode, percent_decode}
use Rattle.percent_encoding.proofs.PercentLemmas.{IsByte, percent_encode-nil, percent_encode-append, percent_encode_kept, round_trip}
use Rattle.svn_lists.proofs.Equality.{bytes_eq-same}
use Rattle.svn_lists.proofs.Every.{all_from_places}
use Rattle.svn_types.specs.Names.{Path, IsName, depth_limit}
use Rattle.svn_types.specs.PathTexts.{path_text}
use Rattle.svn_digits.proofs.PathTexts.{below, no_path_fault, spelled_path, utf8_path}
use Rattle.svn_wire.specs.declared.urls.TheConstants.{ESCAPED}
use Rattle.svn_wire.specs.Urls.{url_part, path_of_bytes, path_after, PathsAreReadBack}

-- ---- text is bytes

char_small : (c : ℕ) → scalar c ≡ true → c < 1114112
char_small c s = elim (scalar_cases c s) [ inl low ↦ omega (arith, low) | inr high ↦ high.1 ]

byte_cons : (b : ℕ) (bytes : List ℕ) → b < 256 → All IsByte bytes → All IsByte (b ∷ bytes)
byte_cons b bytes small rest = All-cons IsByte b bytes small rest

next_byte : (n : ℕ) → next n < 256
next_byte n = omega arith

char_bytes : (c : ℕ) → c < 1114112 → All IsByte (encode c)
unfolding encode
char_bytes c small =
    let none = All-nil IsByte in
    let one = byte_cons (next c) [] (next_byte c) none in
    let two = byte_cons (next (c / 64)) (next c ∷ []) (next_byte (c / 64)) one in
    let three = byte_cons (next (c / 4096)) (next (c / 64) ∷ next c ∷ []) (next_byte (c / 4096)) two in
    cond_both (ltb c 128) _ _ (All IsByte) (λ h. byte_cons c [] (omega (arith, ltb-true c 128 h)) none) (λ _.
    cond_both (ltb c 2048) _ _ (All IsByte) (λ h. byte_cons (192 + c / 64) (next c ∷ []) (omega (arith, ltb-true c 2048 h)) one) (λ _.
    cond_both (ltb c 65536) _ _ (All IsByte)
    (λ h. byte_cons (224 + c / 4096) (next (c / 64) ∷ next c ∷ []) (omega (arith, ltb-true c 65536 h)) two)
    (λ _. byte_cons (240 + c / 262144) (next (c / 4096) ∷ next (c / 64) ∷ next c ∷ []) (omega (arith, small)) three)))

chars_bytes : (cs : List ℕ) → scalars cs ≡ true → All IsByte (encodes cs)
chars_bytes [] h = All-nil IsByte
chars_bytes (c ∷ cs) h =
    let parts = and_parts (scalar c) (scalars cs) h in
    All-append IsByte (encode c) (encodes cs) (char_bytes c (char_small c parts.0)) (chars_bytes cs parts.1)

text_bytes : (bytes : List ℕ) → IsUtf8 bytes → All IsByte bytes
text_bytes bytes text = subst (All IsByte) text.1.1 (chars_bytes text.0 text.1.0)

-- ---- escapes

slash_kept : should_percent_encode ESCAPED 47 ≡ false
unfolding should_percent_encode
slash_kept = refl

percent_escaped : contains ESCAPED 37 ≡ true
percent_escaped = refl

-- no slash is escaped, so names are escaped as the text that they are in
parts_escaped : (path : Path) → flat_map url_part path ≡ percent_encode ESCAPED (below path)
parts_escaped [] = sym (percent_encode-nil ESCAPED)
parts_escaped (n ∷ path) =
    ap₂ (λ (a b : List ℕ). a ++ b) (sym (percent_encode_kept ESCAPED 47 n slash_kept)) (parts_escaped path)
    ∙ sym (percent_encode-append ESCAPED (47 ∷ n) (below path))

text_escaped : (n : List ℕ) (path : Path) → percent_encode ESCAPED n ++ flat_map url_part path ≡ percent_encode ESCAPED (path_text (n ∷ path))
text_escaped n path =
    ap (λ l. percent_encode ESCAPED n ++ l) (parts_escaped path) ∙ sym (percent_encode-append ESCAPED n (below path))

-- ---- paths

text_read : (path : Path) → All IsName path → All IsUtf8 path → length path ≤ depth_limit → path_of_bytes (path_text path) ≡ Ok path
text_read path names texts few =
    rw (
      is_utf8-from_IsUtf8 (path_text path) (utf8_path path texts),
      spelled_path path names,
      no_path_fault path (all_from_places IsName path names) few,
    ) refl

parts_read : (path : Path) → All IsName path → All IsUtf8 path → length path ≤ depth_limit → path_after (Some (flat_map url_part path)) ≡ Ok path
parts_read [] names texts few = refl
parts_read (n ∷ path) names texts few =
    let text = path_text (n ∷ path) in
    ap (λ l. path_of_bytes (percent_decode l)) (text_escaped n path)
    ∙ ap path_of_bytes (round_trip ESCAPED text percent_escaped (text_bytes text (utf8_path (n ∷ path) texts)))
    ∙ text_read (n ∷ path) names texts few

pub paths_read : PathsAreReadBack
paths_read root path names texts few =
    rw (take-append_seam root (flat_map url_part path), bytes_eq-same root, drop-append_seam root (flat_map url_part path))
    (parts_read path names texts few)
