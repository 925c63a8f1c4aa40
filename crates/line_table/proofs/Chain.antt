-- Written by tools/interpreter from crates/native_interp/src/source.
-- The blocks, one after the other: all lines before the last.
use Rattle.line_table.proofs.Counts.{most, name_count}
use Rattle.line_table.proofs.Fronts.{Front, none_yet, with_block}
use Rattle.line_table.proofs.FirstBlocks.{lines_000, lines_040, lines_080, lines_120, lines_160, lines_200, lines_240}
use Rattle.line_table.proofs.SecondBlocks.{lines_280, lines_320, lines_360, lines_400, lines_440, lines_480, lines_520}
use Rattle.line_table.proofs.ThirdBlocks.{lines_560, lines_600, lines_640, lines_680, lines_720, lines_760, lines_800, lines_840, lines_880}

to_040 : Front 40 15
to_040 = with_block 0 40 0 15 none_yet lines_000

to_080 : Front 80 17
to_080 = with_block 40 40 15 2 to_040 lines_040

to_120 : Front 120 17
to_120 = with_block 80 40 17 0 to_080 lines_080

to_160 : Front 160 19
to_160 = with_block 120 40 17 2 to_120 lines_120

to_200 : Front 200 29
to_200 = with_block 160 40 19 10 to_160 lines_160

to_240 : Front 240 40
to_240 = with_block 200 40 29 11 to_200 lines_200

to_280 : Front 280 50
to_280 = with_block 240 40 40 10 to_240 lines_240

to_320 : Front 320 58
to_320 = with_block 280 40 50 8 to_280 lines_280

to_360 : Front 360 71
to_360 = with_block 320 40 58 13 to_320 lines_320

to_400 : Front 400 79
to_400 = with_block 360 40 71 8 to_360 lines_360

to_440 : Front 440 91
to_440 = with_block 400 40 79 12 to_400 lines_400

to_480 : Front 480 103
to_480 = with_block 440 40 91 12 to_440 lines_440

to_520 : Front 520 109
to_520 = with_block 480 40 103 6 to_480 lines_480

to_560 : Front 560 122
to_560 = with_block 520 40 109 13 to_520 lines_520

to_600 : Front 600 130
to_600 = with_block 560 40 122 8 to_560 lines_560

to_640 : Front 640 138
to_640 = with_block 600 40 130 8 to_600 lines_600

to_680 : Front 680 144
to_680 = with_block 640 40 138 6 to_640 lines_640

to_720 : Front 720 155
to_720 = with_block 680 40 144 11 to_680 lines_680

to_760 : Front 760 161
to_760 = with_block 720 40 155 6 to_720 lines_720

to_800 : Front 800 166
to_800 = with_block 760 40 161 5 to_760 lines_760

to_840 : Front 840 177
to_840 = with_block 800 40 166 11 to_800 lines_800

to_880 : Front 880 186
to_880 = with_block 840 40 177 9 to_840 lines_840

to_914 : Front 914 191
to_914 = with_block 880 34 186 5 to_880 lines_880

-- all of them
pub to_last : Front most name_count
to_last = to_914
