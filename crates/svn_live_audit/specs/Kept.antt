-- A history whose texts are kept as stand-ins.
--     kept_history keep h      the same history, the text of each file as it is kept
use Rattle.std.specs.Prelude.{ℕ, List, map}
use Rattle.svn_types.specs.declared.kind.Kind.{Kind}
use Rattle.svn_types.specs.declared.kind.Kind.TheVariants.{File, Directory}
use Rattle.svn_repo.specs.History.{NodeRow, History}

-- a directory has no text
abbrev pub text_by : (List ℕ → List ℕ) → Kind → List ℕ → List ℕ
text_by keep File text = keep text
text_by keep Directory text = text

abbrev pub kept_row : (List ℕ → List ℕ) → NodeRow → NodeRow
kept_row keep row =
    record { line = row.line; kind = row.kind; text = text_by keep row.kind row.text; props = row.props; entries = row.entries }

abbrev pub kept_history : (List ℕ → List ℕ) → History → History
kept_history keep h = record { roots = h.roots; nodes = map (kept_row keep) h.nodes; lines = h.lines }
