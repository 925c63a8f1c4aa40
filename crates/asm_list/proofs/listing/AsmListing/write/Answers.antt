use Rattle.std.proofs.Common.{List, ap, subst, ◌∙◌}
use Rattle.std.specs.List.{flat_map}
use Rattle.std.proofs.lemmas.List.Concat.{flat_map_single}
use Rattle.std.proofs.Common.{ℕ, Vec, Global, ◌∷◌, []}
use Rattle.bench_io.specs.Written.{Written}
use Rattle.asm_list.proofs.listing.AsmListing.write.Goals as goal

pub returns : goal.returns
returns g c =
    let bytes : Vec ℕ Global → List ℕ = λ row. row.items in
    let state = g.O.Sink.state in
    subst (λ (lines : List (List ℕ)). Written c.put_items.result (state c.args.out.now) (state c.put_items.new.out) lines)
    (ap (flat_map (λ row. bytes row ∷ [])) c.as_slice.ensures.value ∙ flat_map_single bytes c.args.self.now.rows.items) c.put_items.ensures
