-- Records, read from their headers on.
use Rattle.std.proofs.Common.{◌≡◌, ℕ, Bool, true, false, List, ◌∷◌, Option, Some, None, Ok, refl, codes}
use Rattle.svn_types.specs.Names.{Path}
use Rattle.svn_types.specs.declared.kind.Kind.{Kind}
use Rattle.svn_dump.specs.declared.record.Action.{Action}
use Rattle.svn_dump.specs.declared.record.CopySource.{CopySource}
use Rattle.svn_dump.specs.declared.record.NodeRecord.{NodeRecord}
use Rattle.svn_dump.specs.declared.record.PropSection.{PropSection}
use Rattle.svn_dump.specs.declared.record.Record.{Record}
use Rattle.svn_dump.specs.declared.record.Record.TheVariants.{Revision, Node}
use Rattle.svn_dump.specs.declared.record.TextSection.{TextSection}
use Rattle.svn_dump.specs.declared.sections.Limits.{Limits}
use Rattle.svn_dump.specs.declared.sections.Texts.{Texts}
use Rattle.svn_dump.specs.Blocks.{block_at}
use Rattle.svn_dump.specs.Headers.{are_headers}
use Rattle.svn_dump.specs.Fields.{number_value, sum_value, true_value, path_value, kind_value, action_value, source_value}
use Rattle.svn_dump.specs.Shapes.{lengths_of, sums_of, base_sums_of, shape_of, agreeing}
use Rattle.svn_dump.specs.Sections.{prop_section_at, text_section_at}
use Rattle.svn_dump.specs.Records.{is_given, subject_of, node_of, node_at, passed_at, headed_at, record_at}

-- the headers are read, and then what they begin
pub record_of_block : (limits : Limits) (texts : Texts) (bytes : List ℕ) (b : ℕ) (block after : List ℕ) (r : Record) (rest : List ℕ)
    → block_at false limits.headers bytes ≡ Ok (b ∷ block, after) → headed_at limits texts (b ∷ block) after ≡ Ok (r, rest)
    → record_at limits texts bytes ≡ Ok (Some r, rest)
unfolding record_at
record_of_block limits texts bytes b block after r rest e f = rw (e, f) refl

-- headers with a revision's number
pub headed_revision : (limits : Limits) (texts : Texts) (block after : List ℕ) (rev : ℕ) → are_headers block ≡ true
    → number_value block (codes "Revision-number") ≡ Ok (Some rev) → headed_at limits texts block after ≡ passed_at (Revision rev) block after
unfolding subject_of
headed_revision limits texts block after rev headers number = rw (headers, number) refl

-- headers with a node's path
pub headed_node : (limits : Limits) (texts : Texts) (block after : List ℕ) (uuid format : Bool) → are_headers block ≡ true
    → number_value block (codes "Revision-number") ≡ Ok None → is_given block (codes "Node-path") ≡ Ok true
    → is_given block (codes "UUID") ≡ Ok uuid → is_given block (codes "SVN-fs-dump-format-version") ≡ Ok format
    → headed_at limits texts block after ≡ node_at limits texts block after
unfolding subject_of
headed_node limits texts block after uuid format headers number path is_uuid is_format = rw (headers, number, path, is_uuid, is_format) refl

pub node_of_values : (block : List ℕ) (path : Path) (kind : Option Kind) (action : Action) (source : Option CopySource)
    → path_value block ≡ Ok path → kind_value block ≡ Ok kind → action_value block ≡ Ok action → source_value block ≡ Ok source
    → node_of block ≡ Ok (record { path = path; kind = kind; action = action; source = source; props = None; text = None })
unfolding node_of
node_of_values block path kind action source e f g h = rw (e, f, g, h) refl

pub lengths_of_values : (block : List ℕ) (props text both : Option ℕ) → number_value block (codes "Prop-content-length") ≡ Ok props
    → number_value block (codes "Text-content-length") ≡ Ok text → number_value block (codes "Content-length") ≡ Ok both
    → agreeing props text both ≡ Ok (record { props = props; text = text }) → lengths_of block ≡ Ok (record { props = props; text = text })
lengths_of_values block props text both e f g agree = rw (e, f, g, agree) refl

pub sums_of_values : (block : List ℕ) (md5 sha1 : Option (List ℕ)) → sum_value 16 block (codes "Text-content-md5") ≡ Ok md5
    → sum_value 16 block (codes "Text-content-checksum") ≡ Ok None → sum_value 20 block (codes "Text-content-sha1") ≡ Ok sha1
    → sums_of block ≡ Ok (record { md5 = md5; sha1 = sha1 })
sums_of_values block None sha1 e f g = rw (e, f, g) refl
sums_of_values block (Some md5) sha1 e f g = rw (e, f, g) refl

pub base_sums_of_values : (block : List ℕ) (md5 sha1 : Option (List ℕ)) → sum_value 16 block (codes "Text-delta-base-md5") ≡ Ok md5
    → sum_value 20 block (codes "Text-delta-base-sha1") ≡ Ok sha1 → base_sums_of block ≡ Ok (record { md5 = md5; sha1 = sha1 })
base_sums_of_values block md5 sha1 e f = rw (e, f) refl

pub shape_of_values : (block : List ℕ) (props text : Option ℕ) (md5 sha1 base_md5 base_sha1 : Option (List ℕ))
    (changes_props changes_text : Bool)
    → lengths_of block ≡ Ok (record { props = props; text = text }) → sums_of block ≡ Ok (record { md5 = md5; sha1 = sha1 })
    → base_sums_of block ≡ Ok (record { md5 = base_md5; sha1 = base_sha1 })
    → true_value block (codes "Prop-delta") ≡ Ok changes_props → true_value block (codes "Text-delta") ≡ Ok changes_text
    → shape_of block ≡ Ok (record {
      lengths = record { props = props; text = text };
      sums = record { md5 = md5; sha1 = sha1 };
      base_sums = record { md5 = base_md5; sha1 = base_sha1 };
      changes_props = changes_props;
      changes_text = changes_text;
    })
unfolding shape_of
shape_of_values block props text md5 sha1 base_md5 base_sha1 changes_props changes_text e f b g h = rw (e, f, b, g, h) refl

pub node_of_sections : (limits : Limits) (texts : Texts) (block bytes mid rest : List ℕ) (node : NodeRecord) (props text : Option ℕ)
    (md5 sha1 base_md5 base_sha1 : Option (List ℕ)) (changes_props changes_text : Bool) (prop_section : Option PropSection) (text_section : Option TextSection)
    → node_of block ≡ Ok node
    → shape_of block ≡ Ok (record {
      lengths = record { props = props; text = text };
      sums = record { md5 = md5; sha1 = sha1 };
      base_sums = record { md5 = base_md5; sha1 = base_sha1 };
      changes_props = changes_props;
      changes_text = changes_text;
    })
    → prop_section_at (record {
      lengths = record { props = props; text = text };
      sums = record { md5 = md5; sha1 = sha1 };
      base_sums = record { md5 = base_md5; sha1 = base_sha1 };
      changes_props = changes_props;
      changes_text = changes_text;
    }) limits.props bytes ≡ Ok (prop_section, mid)
    → text_section_at (record {
      lengths = record { props = props; text = text };
      sums = record { md5 = md5; sha1 = sha1 };
      base_sums = record { md5 = base_md5; sha1 = base_sha1 };
      changes_props = changes_props;
      changes_text = changes_text;
    }) texts limits.text mid ≡ Ok (text_section, rest)
    → node_at limits texts block bytes ≡ Ok (
      Node (record {
        path = node.path;
        kind = node.kind;
        action = node.action;
        source = node.source;
        props = prop_section;
        text = text_section;
      }),
      rest,
    )
unfolding node_at
node_of_sections limits texts block bytes mid rest node props text md5 sha1 base_md5 base_sha1 changes_props changes_text prop_section text_section e f g h =
    rw (e, f, g, h) refl
