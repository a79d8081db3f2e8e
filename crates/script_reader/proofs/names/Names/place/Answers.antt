use Rattle.std.proofs.Common.{string_bytes, sym, ap, ◌∙◌}
use Rattle.std.specs.Str.{bytes_eq}
use Rattle.script_reader.specs.Fields.{place_of}
use Rattle.script_reader.proofs.Places.{position-map}
use Rattle.script_reader.proofs.names.Names.place.Goals as goal

pub returns-clause-place : goal.returns-clause-place
returns-clause-place c =
    c.get_index_of.ensures.index ∙ sym (position-map string_bytes (bytes_eq c.args.name.now) c.self.inside.texts.keys)
    ∙ ap (λ names. place_of names c.args.name.now) c.self.view_is
