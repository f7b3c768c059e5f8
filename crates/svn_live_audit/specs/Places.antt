-- What the code has of nodes and rounds, as the definitions have it.
use Rattle.std.specs.Prelude.{◌≡◌, map}
use Rattle.svn_types.specs.Names.{Path}
use Rattle.svn_model.specs.declared.base_node.BaseNode.{BaseNode}
use Rattle.svn_model.specs.Nodes.{get_in}
use Rattle.svn_ask.specs.declared.question.Question.{Question}
use Rattle.svn_ask.specs.Answers.{SaidValue}
use Rattle.svn_live_audit.specs.Rounds.{Round, Kinds, round_on, kinds_on}
use Rattle.svn_live_audit.specs.declared.places.Place.{Place}
use Rattle.svn_live_audit.specs.declared.nodes.NodeHearer.{NodeHearer}
use Rattle.svn_live_audit.specs.declared.kinds.KindHearer.{KindHearer}

abbrev pub place_value : Place → Path × BaseNode
place_value p = (p.path.now, p.node.now)

abbrev pub round_of : NodeHearer → Round
round_of h = record { left = map place_value h.left.now; findings = h.findings.items; suits = h.suits }

abbrev pub kinds_of : KindHearer → Kinds
kinds_of h = record { reasons = h.reasons.items; suits = h.suits }

-- what hearing an answer does
abbrev pub node_hears : NodeHearer → Question → SaidValue → NodeHearer → Type 0
node_hears old q value new = (round_of new ≡ round_on (get_in old.copy.now) (round_of old) value) × (new.copy ≡ old.copy)

abbrev pub kind_hears : KindHearer → Question → SaidValue → KindHearer → Type 0
kind_hears old q value new = kinds_of new ≡ kinds_on (kinds_of old) value
