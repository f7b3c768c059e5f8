use Rattle.std.proofs.Common.{◌++◌, ◌∷◌, [], ◌∙◌, List, ℕ, All, sym, ap, subst, append_assoc}
use Rattle.std.specs.Map.{keys_of}
use Rattle.std.proofs.lemmas.List.Elements.{All-push}
use Rattle.svn_lists.proofs.Entries.{keys_of-push}
use Rattle.svn_types.specs.Names.{IsPropName}
use Rattle.svn_wcrows.proofs.lawful.props_are_lawful.Goals as goal

pub loop-name-preserved : goal.loop-name-preserved
loop-name-preserved c =
    let inv = c.loop-name.invariant in
    let p : List ℕ × List ℕ = (c.in-Some.name.now, c.in-Some._value.now) in (
      inv.0 ++ p ∷ [],
      append_assoc inv.0 (p ∷ []) c.next.new.self ∙ ap (λ (l : List (List ℕ × List ℕ)). inv.0 ++ l) (sym c.in-Some.ensures.steps) ∙ inv.1,
      subst (All IsPropName) (sym (keys_of-push inv.0 p)) (All-push IsPropName (keys_of inv.0) p.0 inv.2 c.as_str-text.ensures.name),
    )
