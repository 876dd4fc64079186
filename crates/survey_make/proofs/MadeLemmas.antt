-- What the description of the made survey says, found by computing it.
use Rattle.std.proofs.Common.{◌≡◌, ◌+◌, refl, None, negsuc, ap}
use Rattle.decimal_scale.specs.Real.{is_whole}
use Rattle.decimal_scale.specs.Whole.{whole_value}
use Rattle.parent_rule.specs.declared.combine.Combine.TheVariants.{Mean}
use Rattle.pyramid_model.specs.Shape.{PyramidShape}
use Rattle.fits_header.specs.Cards.{whole_blocks}
use Rattle.fits_tile.specs.TileFile.{data_len}
use Rattle.survey_conf.specs.Keys.{known}
use Rattle.survey_conf.specs.Faults.{fault_of, kind_after, fault_together}
use Rattle.survey_conf.specs.Lines.{lines, trimmed, content, is_key, is_value}
use Rattle.survey_conf.specs.Entries.{entries}
use Rattle.survey_conf.specs.Numbers.{whole, natural}
use Rattle.survey_conf.specs.Description.{description}
use Rattle.survey_make.specs.Conf.{made_conf, made}

-- it has no fault
pub made_accepted : fault_of made_conf ≡ None
unfolding made_conf fault_of kind_after fault_together lines trimmed content is_key is_value entries whole natural known whole_value is_whole
made_accepted = refl

-- leaves of order 5, tiles of 2^5 columns, numbers of 16 bits
abbrev pub made_shape : PyramidShape
made_shape = record { top = 5; low = 3; n = 5; depth = record { bitpix = 16; blank = negsuc 32767; combine = Mean } }

pub shape-made : made.shape ≡ made_shape
unfolding made_conf description lines trimmed content is_key is_value entries whole natural known whole_value is_whole
shape-made = refl

-- the length of its tile files
pub made_file_len : 2880 + whole_blocks (data_len made.shape) ≡ 5760
made_file_len = ap (λ (shape : PyramidShape). 2880 + whole_blocks (data_len shape)) shape-made
