-- Lines and clocks of a frame (§6.1 to §6.3), over the eight fields that set them. Each part is a field + 1, so none is 0. Promises
-- cite it, so a reader must believe it.
use Rattle.std.specs.Prelude.{ℕ, ◌+◌, ◌*◌}
use Rattle.registers.specs.Fields as Fields
use Rattle.registers.specs.declared.Words.{Words}

pub record Timing : Type 0 where
  pub vspw : ℕ
  pub vbpd : ℕ
  pub lineval : ℕ
  pub vfpd : ℕ
  pub hspw : ℕ
  pub hbpd : ℕ
  pub hozval : ℕ
  pub hfpd : ℕ

abbrev pub timing : Words → Timing
timing w =
    record {
      vspw = Fields.vspw w;
      vbpd = Fields.vbpd w;
      lineval = Fields.lineval w;
      vfpd = Fields.vfpd w;
      hspw = Fields.hspw w;
      hbpd = Fields.hbpd w;
      hozval = Fields.hozval w;
      hfpd = Fields.hfpd w;
    }

-- C, the clocks of a line (§6.1)
unfoldable pub line_clocks : Timing → ℕ
line_clocks t = (t.hspw + 1) + (t.hbpd + 1) + (t.hozval + 1) + (t.hfpd + 1)

-- L, the lines of a frame (§6.2)
unfoldable pub frame_lines : Timing → ℕ
frame_lines t = (t.vspw + 1) + (t.vbpd + 1) + (t.lineval + 1) + (t.vfpd + 1)

-- the clocks of a frame (§6.3)
unfoldable pub frame_clocks : Timing → ℕ
frame_clocks t = frame_lines t * line_clocks t
