-- The headers that are read: their names, and their places among them.
--     header_named spelled      the header that is spelled so, if it is read
use Rattle.std.specs.Prelude.{ℕ, List, [], ◌∷◌, bytes_eq, codes, Option, Some, None, if◌then◌else◌}
use Rattle.svn_dump.specs.declared.header_name.HeaderName.{HeaderName}
use Rattle.svn_dump.specs.declared.header_name.HeaderName.TheVariants.{NodePath, NodeKind, NodeAction, PropLength, TextLength, TextMd5, TextSha1, ContentLength, CopyRev}
use Rattle.svn_dump.specs.declared.header_name.HeaderName.TheVariants.{CopyPath, PropDelta, TextDelta, BaseMd5, BaseSha1, Revision, Checksum, Uuid, Format}

abbrev pub name_of : HeaderName → List ℕ
name_of NodePath = codes "Node-path"
name_of NodeKind = codes "Node-kind"
name_of NodeAction = codes "Node-action"
name_of PropLength = codes "Prop-content-length"
name_of TextLength = codes "Text-content-length"
name_of TextMd5 = codes "Text-content-md5"
name_of TextSha1 = codes "Text-content-sha1"
name_of ContentLength = codes "Content-length"
name_of CopyRev = codes "Node-copyfrom-rev"
name_of CopyPath = codes "Node-copyfrom-path"
name_of PropDelta = codes "Prop-delta"
name_of TextDelta = codes "Text-delta"
name_of BaseMd5 = codes "Text-delta-base-md5"
name_of BaseSha1 = codes "Text-delta-base-sha1"
name_of Revision = codes "Revision-number"
name_of Checksum = codes "Text-content-checksum"
name_of Uuid = codes "UUID"
name_of Format = codes "SVN-fs-dump-format-version"

abbrev pub index_of : HeaderName → ℕ
index_of NodePath = 0
index_of NodeKind = 1
index_of NodeAction = 2
index_of PropLength = 3
index_of TextLength = 4
index_of TextMd5 = 5
index_of TextSha1 = 6
index_of ContentLength = 7
index_of CopyRev = 8
index_of CopyPath = 9
index_of PropDelta = 10
index_of TextDelta = 11
index_of BaseMd5 = 12
index_of BaseSha1 = 13
index_of Revision = 14
index_of Checksum = 15
index_of Uuid = 16
index_of Format = 17

-- the first of some headers that is spelled so, or else another
abbrev pub first_named : List HeaderName → Option HeaderName → List ℕ → Option HeaderName
first_named [] other spelled = other
first_named (name ∷ more) other spelled = if bytes_eq spelled (name_of name) then Some name else first_named more other spelled

abbrev pub rarely_named : List ℕ → Option HeaderName
rarely_named spelled =
    first_named (CopyRev ∷ CopyPath ∷ PropDelta ∷ TextDelta ∷ BaseMd5 ∷ BaseSha1 ∷ Revision ∷ Checksum ∷ Uuid ∷ Format ∷ []) None spelled

abbrev pub header_named : List ℕ → Option HeaderName
header_named spelled =
    first_named (NodePath ∷ NodeKind ∷ NodeAction ∷ PropLength ∷ TextLength ∷ TextMd5 ∷ TextSha1 ∷ ContentLength ∷ []) (rarely_named spelled) spelled
