use Rattle.std.proofs.Common.{◌≡◌, ◌<◌, ◌≤◌, get_or, length, map, sym, ap, ◌∙◌, arith}
use Rattle.std.proofs.Math.ListN.{get_or-map, set}
use Rattle.std.proofs.lemmas.Grind.{common_steps}
use Rattle.std.proofs.lemmas.List.{length-map, map-set}
use Rattle.serde_json.specs.View.{view}
use Rattle.lsp_server.proofs.Publishing.{Published-all, Published-more, Published-none}
use Rattle.lsp_server.specs.States.{documents_view, open_view}
use Rattle.lsp_server.specs.Steps.{Open}
use Rattle.lsp_server.proofs.documents.publish.Goals as goal

pub loop-at-init : goal.loop-at-init
loop-at-init g c =
    let says = g.D.HeldText.says c.args.surroundings.now in
    Published-none says (documents_view g.D.HeldText.text_of c.args.documents.now.items) (map view c.args.values.now.items)

pub loop-at-preserved : goal.loop-at-preserved
loop-at-preserved g c =
    let f = open_view g.D.HeldText.text_of in
    let at = c.loop-at.at in
    let documents = c.loop-at.documents.items in
    let seen = documents_view g.D.HeldText.text_of documents in
    let here = f c.index_mut.result.now in
    let found : here ≡ get_or seen at here = ap f c.index_mut.ensures.value ∙ sym (get_or-map f documents at c.index_mut.result.now) in
    let low : at < length documents = grind (arith, common_steps) in
    let within : at < length seen = omega (arith, low, length-map documents f) in
    let changed = ap (λ (d : Open). set seen at d) c.in_ok-publish_one.ensures.document in
    Published-more (g.D.HeldText.says c.args.surroundings.now) _ seen _ _ _ _ at here c.loop-at.invariant within here found
    (map-set f documents at c.publish_one.new.document ∙ changed) c.in_ok-publish_one.ensures.values

pub returns-clause-documents : goal.returns-clause-documents
returns-clause-documents g c =
    let f = open_view g.D.HeldText.text_of in
    let documents = c.loop-at.documents.items in
    let high : length documents ≤ c.loop-at.at = grind (arith, common_steps) in
    let none : length (documents_view g.D.HeldText.text_of documents) ≤ c.loop-at.at = omega (arith, high, length-map documents f) in
    (Published-all _ _ _ _ _ _ c.loop-at.invariant none).0

pub returns-clause-values : goal.returns-clause-values
returns-clause-values g c =
    let f = open_view g.D.HeldText.text_of in
    let documents = c.loop-at.documents.items in
    let high : length documents ≤ c.loop-at.at = grind (arith, common_steps) in
    let none : length (documents_view g.D.HeldText.text_of documents) ≤ c.loop-at.at = omega (arith, high, length-map documents f) in
    (Published-all _ _ _ _ _ _ c.loop-at.invariant none).1
