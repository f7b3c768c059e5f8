use Rattle.std.proofs.Common.{◌≡◌, ℕ, List, ◌++◌, sym, true≢false}
use Rattle.svn_lists.proofs.Options.{when_none}
use Rattle.svn_types.proofs.PathKeys.{not_more}
use Rattle.svn_types.proofs.rel_path.is_one_more.Goals as goal

pub returns-in_default-behind : goal.returns-in_default-behind
returns-in_default-behind c =
    let not : (rest : List ℕ) → c.in-Some.below.now ≡ c.args.last.now ++ rest → ⊥ =
    when_none c.behind-2.result _ _ c.in_default-behind.not-Some c.behind-2.ensures in (
      λ t. absurd (true≢false (sym t)),
      λ e. absurd (not_more c.args.key.now c.args.above.now c.in-Some.below.now c.args.last.now c.in-Some.ensures not e),
    )
