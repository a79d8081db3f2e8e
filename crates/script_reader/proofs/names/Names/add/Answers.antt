use Rattle.std.proofs.Common.{◌≡◌, ◌∷◌, [], ◌++◌, map, string_bytes, sym, ap, ◌∙◌}
use Rattle.std.specs.String.{string_eq}
use Rattle.std.specs.Str.{bytes_eq}
use Rattle.std.proofs.lemmas.Bool.{cond-false}
use Rattle.std.proofs.lemmas.List.{map-append}
use Rattle.script_reader.proofs.Places.{position-map, list_any-nowhere}
use Rattle.script_reader.specs.Fields.{place_of}
use Rattle.script_reader.proofs.names.Names.add.Goals as goal

pub returns-clause-ok : goal.returns-clause-ok
returns-clause-ok c =
    let name = c.in_ok-name.name in
    let text = string_bytes name in
    let keys = c.self.inside.texts.keys in
    let same : text ≡ c.args.name.now = c.in_ok-name.ensures.ok in
    let absent = list_any-nowhere (string_eq name) keys (sym (position-map string_bytes (bytes_eq text) keys) ∙ ap (λ t. place_of (map string_bytes keys) t) same ∙ ap (λ names. place_of names c.args.name.now) c.self.view_is ∙ c.requires) in
    let put = c.in_ok-insert.ensures.keys ∙ cond-false _ _ _ absent in
    ap (map string_bytes) put ∙ map-append string_bytes keys (name ∷ []) ∙ ap (λ names. names ++ text ∷ []) c.self.view_is ∙ ap (λ t. c.args.self.now ++ t ∷ []) same
