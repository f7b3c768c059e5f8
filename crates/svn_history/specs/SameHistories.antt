-- Histories that are the same but for the numbers of their nodes.
--     IsSame a b      the same at each path of each revision, node by node and line by line
--     DumpsLoadAsOne      whatever loads the same dump, on the same history, has the same history then
use Rattle.std.specs.Prelude.{◌≡◌, ℕ, List, length, Option, Some, option_map}
use Rattle.std.specs.Option.{option_and_then}
use Rattle.svn_types.specs.declared.kind.Kind.{Kind}
use Rattle.svn_types.specs.Names.{Path}
use Rattle.svn_repo.specs.History.{History, NodeRow, node_at, look}
use Rattle.svn_repo.specs.Laws.{NodesExist}
use Rattle.svn_dump.specs.declared.sections.Limits.{Limits}
use Rattle.svn_dump.specs.declared.sections.Texts.{Texts}
use Rattle.svn_history.specs.Loading.{LoadsDump}

-- a node but for its entries: its line, its kind, its text and its properties
abbrev pub Seen : Type 0
Seen = ℕ × Kind × List ℕ × List (List ℕ × List ℕ)

abbrev pub seen : NodeRow → Seen
seen row = (row.line, row.kind, row.text, row.props)

-- what is at a path in a revision
abbrev pub seen_at : History → ℕ → Path → Option Seen
seen_at h r q = option_map seen (option_and_then (node_at h) (look h r q))

pub record IsSame (a b : History) : Type 0 where
  pub revisions : length a.roots ≡ length b.roots
  pub lines : a.lines ≡ b.lines
  pub nodes : (r : ℕ) (q : Path) → seen_at a r q ≡ seen_at b r q
  -- one node is at two places in the one where one node is at both in the other
  pub shared : (r s : ℕ) (p q : Path) → look a r p ≡ look a s q → look b r p ≡ look b s q
  pub shared_too : (r s : ℕ) (p q : Path) → look b r p ≡ look b s q → look a r p ≡ look a s q

-- each node of the history h is there, as in each repository's
abbrev pub DumpsLoadAsOne : Type 0
DumpsLoadAsOne = (limits : Limits) (texts : Texts) (bytes : List ℕ) (h a b : History) → NodesExist h
    → LoadsDump limits texts (Some bytes) h a → LoadsDump limits texts (Some bytes) h b → IsSame a b
