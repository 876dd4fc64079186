-- Laws of the definitions, each the whole contract of a function of `laws`.
use Rattle.std.specs.Prelude.{◌≡◌, None}
use Rattle.survey_conf.specs.Description.{Description, IsDescription, description_of}
use Rattle.survey_conf.specs.Faults.{fault_of}
use Rattle.survey_conf.specs.Properties.{description_text}

-- the properties of a description, without their last line, have no fault and describe the same
pub record PropertiesReadAgain : Type 0 where
  pub accepted : (d : Description) → IsDescription d → fault_of (description_text d) ≡ None
  pub same : (d : Description) → IsDescription d → description_of (description_text d) ≡ d
