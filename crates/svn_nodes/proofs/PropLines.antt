-- The line of a property, from its beginning and the name, which has no byte that is escaped.
use Rattle.std.proofs.Common.{◌≡◌, ℕ, true, List, [], ◌∷◌, ◌++◌, append_assoc, refl, arith, ap, sym, ◌∙◌, true≢false}
use Rattle.std.specs.Prelude.{codes}
use Rattle.std.specs.List.{list_all}
use Rattle.std.proofs.lemmas.Bool.{and_parts}
use Rattle.std.proofs.lemmas.Bool.Decides.{nat_tests}
use Rattle.svn_types.specs.Names.{Path, IsPropName, is_prop_text, starts_prop_name, continues_prop_name}
use Rattle.svn_editor.specs.Words.{is_shown, path_word, word}
use Rattle.svn_editor.proofs.PrintedWords.{shown_text}
use Rattle.svn_nodes.specs.Lines.{prop_line, prop_start}

shown_first : (b : ℕ) → starts_prop_name b ≡ true → is_shown b ≡ true
shown_first b h = grind (arith, h, nat_tests)

shown_next : (b : ℕ) → continues_prop_name b ≡ true → is_shown b ≡ true
shown_next b h = grind (arith, h, nat_tests)

shown_rest : (bs : List ℕ) → list_all continues_prop_name bs ≡ true → list_all is_shown bs ≡ true
shown_rest [] h = refl
shown_rest (b ∷ bs) h =
    let parts = and_parts (continues_prop_name b) (list_all continues_prop_name bs) h in
    rw (shown_next b parts.0) (shown_rest bs parts.1)

-- the name of a property is printed as it is
word_of_name : (name : List ℕ) → is_prop_text name ≡ true → word name ≡ name
word_of_name [] h = absurd (true≢false (sym h))
word_of_name (b ∷ bs) h =
    let parts = and_parts (starts_prop_name b) (list_all continues_prop_name bs) h in
    let shown : list_all is_shown (b ∷ bs) ≡ true = rw (shown_first b parts.0) (shown_rest bs parts.1) in
    shown_text (b ∷ bs) shown

pub prop_line_from : (p : Path) (name text value bytes : List ℕ) → text ≡ name → bytes ≡ value → IsPropName name
    → prop_start p ++ (text ++ (32 ∷ (word bytes ++ (10 ∷ [])))) ≡ prop_line p (name, value)
prop_line_from p name text value bytes same_name same_value is_name =
    let behind : List ℕ = 32 ∷ (word value ++ (10 ∷ [])) in
    (λ i. prop_start p ++ (same_name i ++ (32 ∷ (word (same_value i) ++ (10 ∷ [])))))
    ∙ append_assoc (path_word p) (codes " prop ") (name ++ behind)
    ∙ ap (λ (l : List ℕ). path_word p ++ (codes " prop " ++ (l ++ behind))) (sym (word_of_name name is_name.text))
    ∙ ap (λ (l : List ℕ). path_word p ++ (codes " prop " ++ l)) (sym (append_assoc (word name) (32 ∷ word value) (10 ∷ [])))
    ∙ sym (append_assoc (path_word p) (codes " prop " ++ (word name ++ (32 ∷ word value))) (10 ∷ []))
