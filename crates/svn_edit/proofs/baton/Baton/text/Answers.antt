use Rattle.std.proofs.Common.{ℕ, List, ◌∷◌, Some, sym, subst}
use Rattle.std.specs.Prelude.{Option, filter_map}
use Rattle.std.specs.List.{flat_map}
use Rattle.svn_pool.specs.Pools.{strings_at}
use Rattle.svn_model.specs.Effects.{text_in}
use Rattle.svn_nodes.specs.NodeTests.{first_of}
use Rattle.svn_edit.specs.declared.baton.NotedText.{NotedText}
use Rattle.svn_edit.specs.Noted.{strings_of}
use Rattle.svn_edit.specs.Applying.{IsTextAt}
use Rattle.svn_edit.proofs.Saying.{text_read}
use Rattle.svn_edit.proofs.baton.Baton.text.Goals as goal

pub returns-in-Some : goal.returns-in-Some
returns-in-Some c = λ said s.
    let strings = strings_at c.args.pools.now c.args.self.now.pool.0 in
    let text = first_of (filter_map text_in said) in
    text_read c.in-Some.noted strings text c.get.result
    (subst (λ (l : List (List ℕ)). IsTextAt (Some c.in-Some.noted) l text) (sym s.strings)
    (subst (λ (o : Option NotedText). IsTextAt o (s.first ∷ flat_map strings_of said) text) c.in-Some.is s.text)) c.get.ensures

pub returns-in-None : goal.returns-in-None
returns-in-None c = λ said s. sym
    (subst (λ (o : Option NotedText). IsTextAt o (s.first ∷ flat_map strings_of said) (first_of (filter_map text_in said))) c.in-None.is s.text)
