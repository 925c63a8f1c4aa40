use Rattle.std.proofs.Common.{◌∷◌, sym, ◌∙◌, arith}
use Rattle.module_image.proofs.TableLaws.{words_most}
use Rattle.module_image.proofs.RoomLaws.{is_full, is_over, has_room, words_counted, image_after, overlaps_are}
use Rattle.module_image.proofs.image.Image.place.Goals as goal

pub overflow_add-self : goal.overflow_add-self
overflow_add-self c =
    omega (
      arith,
      words_most c.fill_reserved.new.self.relocatable.cells.items,
      words_most c.fill_reserved.new.self.absolute.cells.items,
      c.fill_reserved.new.self.relocatable.counted,
      c.fill_reserved.new.self.absolute.counted,
    )

pub returns-then-self : goal.returns-then-self
returns-then-self c = λ references earlier line is at given.
    let image = image_after references earlier line c.args.at c.args.contents.now c.args.self.now is at given c.requires c.fill_reserved.new.self c.fill_reserved.ensures in
    record {
      room = sym (is_full earlier line (omega (arith, words_counted references (line ∷ earlier) c.fill_reserved.new.self image, c.if-self.true)));
      image = image;
    }

pub returns-then-overlaps : goal.returns-then-overlaps
returns-then-overlaps c = λ references earlier line is at given.
    let image = image_after references earlier line c.args.at c.args.contents.now c.args.self.now is at given c.requires c.fill_reserved.new.self c.fill_reserved.ensures in
    record {
      room = sym (is_over earlier line (omega (arith, words_counted references (line ∷ earlier) c.fill_reserved.new.self image, c.if-self.false))
          (sym (overlaps_are references earlier line c.args.at c.args.contents.now c.args.self.now is at given c.requires)
          ∙ (sym c.has_any-overlaps.ensures ∙ c.if-overlaps.true)));
      image = image;
    }

pub returns : goal.returns
returns c = λ references earlier line is at given.
    let image = image_after references earlier line c.args.at c.args.contents.now c.args.self.now is at given c.requires c.fill_reserved.new.self c.fill_reserved.ensures in
    record {
      room = sym (has_room earlier line (omega (arith, words_counted references (line ∷ earlier) c.fill_reserved.new.self image, c.if-self.false))
          (sym (overlaps_are references earlier line c.args.at c.args.contents.now c.args.self.now is at given c.requires)
          ∙ (sym c.has_any-overlaps.ensures ∙ c.if-overlaps.false)));
      image = image;
    }
