-- The line of a true copy, from the parts that are written.
use Rattle.std.proofs.Common.{◌≡◌, ◌∙◌, ℕ, Bool, List, [], ◌∷◌, ◌++◌, append_assoc, length, sym, ap, subst}
use Rattle.std.specs.Prelude.{Option, codes}
use Rattle.std.specs.Fmt.{decimal}
use Rattle.svn_types.specs.Names.{Path}
use Rattle.svn_model.specs.declared.base_node.BaseNode.{BaseNode}
use Rattle.svn_wcdb.specs.Sparse.{LeftOut}
use Rattle.svn_answers.specs.Lines.{source_text, lowest, highest, or_zero, span_text, left_out_part, left_out_text, uuid_text, root_text, true_line}

abbrev parts_from : ℕ → LeftOut → List ℕ
parts_from n l =
    left_out_part n (codes "directory sparse") (codes "directories sparse")
    ++ (left_out_part l.excluded (codes "entry excluded") (codes "entries excluded")
    ++ left_out_part l.withheld (codes "entry withheld") (codes "entries withheld"))

pub left_out_parts : (l : LeftOut) (n : ℕ) → n ≡ length l.depths → parts_from n l ≡ left_out_text l
left_out_parts l n is =
    ap (λ (k : ℕ). parts_from k l) is
    ∙ sym
    (append_assoc (left_out_part (length l.depths) (codes "directory sparse") (codes "directories sparse"))
    (left_out_part l.excluded (codes "entry excluded") (codes "entries excluded"))
    (left_out_part l.withheld (codes "entry withheld") (codes "entries withheld")))

-- nine texts, one after another
after_another : (a b c d e f g h i : List ℕ)
    → a ++ (b ++ (c ++ (d ++ (e ++ (f ++ (g ++ (h ++ i))))))) ≡ (((((((a ++ b) ++ c) ++ d) ++ e) ++ f) ++ g) ++ h) ++ i
after_another a b c d e f g h i =
    sym (append_assoc a b (c ++ (d ++ (e ++ (f ++ (g ++ (h ++ i)))))))
    ∙ sym (append_assoc (a ++ b) c (d ++ (e ++ (f ++ (g ++ (h ++ i))))))
    ∙ sym (append_assoc ((a ++ b) ++ c) d (e ++ (f ++ (g ++ (h ++ i)))))
    ∙ sym (append_assoc (((a ++ b) ++ c) ++ d) e (f ++ (g ++ (h ++ i))))
    ∙ sym (append_assoc ((((a ++ b) ++ c) ++ d) ++ e) f (g ++ (h ++ i)))
    ∙ sym (append_assoc (((((a ++ b) ++ c) ++ d) ++ e) ++ f) g (h ++ i))
    ∙ sym (append_assoc ((((((a ++ b) ++ c) ++ d) ++ e) ++ f) ++ g) h i)

module _ (name : List ℕ) (nodes : List (Path × BaseNode)) (left_out : LeftOut) (any_uuid untold : Bool) where
  abbrev line_of : ℕ → Option ℕ → Option ℕ → List ℕ → List ℕ → List ℕ
  line_of count first last uuid root =
      source_text name
      ++ (codes ": true: "
      ++ (decimal count
      ++ (codes " nodes, " ++ (span_text (or_zero first) (or_zero last) ++ (left_out_text left_out ++ (uuid ++ (root ++ (10 ∷ []))))))))

  abbrev line : List ℕ
  line = true_line name nodes left_out (any_uuid, untold)

  same : line_of (length nodes) (lowest nodes) (highest nodes) (uuid_text any_uuid) (root_text untold) ≡ line
  same =
      after_another (source_text name) (codes ": true: ") (decimal (length nodes)) (codes " nodes, ")
      (span_text (or_zero (lowest nodes)) (or_zero (highest nodes))) (left_out_text left_out) (uuid_text any_uuid) (root_text untold) (10 ∷ [])

  pub true_text : (count : ℕ) (first last : Option ℕ) (uuid root : List ℕ) → count ≡ length nodes → first ≡ lowest nodes → last ≡ highest nodes
      → uuid ≡ uuid_text any_uuid → root ≡ root_text untold → line_of count first last uuid root ≡ line
  true_text count first last uuid root counts lows highs uuids roots =
      subst (λ (n : ℕ). line_of n first last uuid root ≡ line) (sym counts)
      (subst (λ (x : Option ℕ). line_of (length nodes) x last uuid root ≡ line) (sym lows)
      (subst (λ (x : Option ℕ). line_of (length nodes) (lowest nodes) x uuid root ≡ line) (sym highs)
      (subst (λ (u : List ℕ). line_of (length nodes) (lowest nodes) (highest nodes) u root ≡ line) (sym uuids)
      (subst (λ (u : List ℕ). line_of (length nodes) (lowest nodes) (highest nodes) (uuid_text any_uuid) u ≡ line) (sym roots) same))))
