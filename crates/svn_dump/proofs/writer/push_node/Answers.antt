use Rattle.std.proofs.Common.{◌≡◌, [], ◌++◌, codes, unwrap_or, ◌∙◌}
use Rattle.svn_dump.specs.Written.{prop_section, text_section, headers, headers_of}
use Rattle.svn_dump.proofs.Appends.{then_appended, four_appended, same_piece}
use Rattle.svn_dump.proofs.writer.push_node.Goals as goal

pub returns : goal.returns
returns c =
    let node = c.args.node.now in
    let out = c.args.out.now.items in
    let props = unwrap_or (prop_section node.props) [] in
    let text = unwrap_or (text_section node.text) [] in
    let lengths : headers node c.in_ok-props.props_len c.text_section-text_len.result.1 ≡ headers_of node =
    λ i. headers node (c.in_ok-props.ensures.len i) (c.text_section-text_len.ensures.len i) in
    then_appended out (((headers_of node ++ codes "\n") ++ props) ++ text) (codes "\n\n") c.extend_from_slice-2.new.self.items
    c.extend_from_slice-3.new.self.items
    (four_appended out (headers_of node) (codes "\n") props text c.push_headers.new.out.items c.push.new.self.items c.extend_from_slice.new.self.items
    c.extend_from_slice-2.new.self.items
    (same_piece out c.push_headers.new.out.items (headers node c.in_ok-props.props_len c.text_section-text_len.result.1) (headers_of node)
    c.in_ok-push_headers.ensures lengths)
    c.in_ok-push.ensures.items
    (same_piece c.push.new.self.items c.extend_from_slice.new.self.items c.deref.result.now props c.in_ok-extend_from_slice.ensures.items
    (c.deref.ensures.value ∙ c.in_ok-props.ensures.bytes))
    (same_piece c.extend_from_slice.new.self.items c.extend_from_slice-2.new.self.items c.text_section-text_len.result.0.now text
    c.in_ok-extend_from_slice-2.ensures.items c.text_section-text_len.ensures.bytes))
    c.in_ok-extend_from_slice-3.ensures.items
