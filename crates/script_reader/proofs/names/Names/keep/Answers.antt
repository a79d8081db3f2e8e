use Rattle.std.proofs.Common.{string_bytes, map, take, ap, ◌∙◌}
use Rattle.script_reader.proofs.Places.{map-take}
use Rattle.script_reader.proofs.names.Names.keep.Goals as goal

pub returns : goal.returns
returns c =
    ap (map string_bytes) c.truncate.ensures.keys ∙ map-take string_bytes c.args.count c.self.inside.texts.keys
    ∙ ap (take c.args.count) c.self.view_is
