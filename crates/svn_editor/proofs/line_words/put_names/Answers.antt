use Rattle.std.proofs.Common.{◌≡◌, ℕ, ◌+◌, ◌<◌, Bool, ◌&&◌, List, [], ◌∷◌, ◌++◌, length, map, take, drop, get_or, ap, sym, ◌∙◌, arith}
use Rattle.std.proofs.Common.{rules}
use Rattle.std.specs.List.{list_all}
use Rattle.std.proofs.lemmas.List.{drop_more, get_or_at, length-map, length-take, map_more}
use Rattle.std.proofs.lemmas.List.Edits.{map_over_more}
use Rattle.std.proofs.lemmas.List.Folds.{list_all-append}
use Rattle.std.proofs.Math.Bool.{and-true}
use Rattle.svn_editor.specs.Words.{is_shown, path_byte}
use Rattle.svn_editor.proofs.line_words.put_names.Goals as goal

-- one byte more, which was read after those that are changed
shown_more : (t ys : List ℕ) (i : ℕ) (all one : Bool) → i < length t → ys ≡ map path_byte (take i t) ++ drop i t
    → all ≡ list_all is_shown (map path_byte (take i t)) → one ≡ is_shown (path_byte (get_or ys i 0))
    → (all && one) ≡ list_all is_shown (map path_byte (take (i + 1) t))
shown_more t ys i all one lt parts so_far is =
    let front : List ℕ = map path_byte (take i t) in
    let long : length front ≡ i = length-map (take i t) path_byte ∙ omega (arith, length-take i t) in
    let read : get_or ys i 0 ≡ get_or t i 0 =
    ap (λ (l : List ℕ). get_or l i 0) (parts ∙ ap (λ (l : List ℕ). front ++ l) (drop_more t i 0 lt))
    ∙ get_or_at front (get_or t i 0) (drop (i + 1) t) 0 i long in
    (λ k. so_far k && (is ∙ ap (λ (b : ℕ). is_shown (path_byte b)) read) k)
    ∙ sym
    (ap (list_all is_shown) (map_more path_byte t i 0 lt) ∙ list_all-append is_shown front (path_byte (get_or t i 0) ∷ [])
    ∙ ap (λ (b : Bool). list_all is_shown front && b) (and-true (is_shown (path_byte (get_or t i 0)))))

pub loop-byte-preserved : goal.loop-byte-preserved
loop-byte-preserved g c =
    record {
      text = search (rules, map_over_more path_byte);
      shown =
          shown_more c.args.text.now c.loop-byte.text c.loop-byte.byte-index c.loop-byte.all c.is_shown-all.result
          (search rules) c.loop-byte.invariant.text c.loop-byte.invariant.shown
          (c.is_shown-all.ensures ∙ ap is_shown c.path_byte-name.ensures);
    }
