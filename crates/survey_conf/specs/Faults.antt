-- The faults of a description, over all its lines at once: the least line with a fault of its own, in that line the first
-- kind of fault, and only then what is wrong with the lines together. This project's profile.
use Rattle.std.specs.Prelude.{◌≡◌, ℕ, ◌+◌, Bool, not, ◌&&◌, ◌==◌, int_le, if◌then◌else◌, List, [], length, take, Option, Some, None, slice_get, slice_index_or, pos}
use Rattle.std.specs.List.{filter_map, list_all, range_with_len}
use Rattle.std.specs.Option.{option_map, option_or}
use Rattle.parent_rule.specs.Depth.{least_number, greatest_number}
use Rattle.survey_conf.specs.Lines.{contents, is_skipped, has_form, key_in, value_in}
use Rattle.survey_conf.specs.Numbers.{whole, bitpix, version}
use Rattle.survey_conf.specs.Keys.{required_keys, is_unknown, is_in_range, name}
use Rattle.survey_conf.specs.Entries.{Entries, entries, is_there, line_of, read_as}
use Rattle.survey_conf.specs.declared.fault.ConfFault.{ConfFault}
use Rattle.survey_conf.specs.declared.fault.ConfKind.{ConfKind}
use Rattle.survey_conf.specs.declared.fault.ConfKind.TheVariants.{Syntax, Unknown, Twice, Range, Missing}
use Rattle.survey_conf.specs.declared.fault.ConfRefusal.{ConfRefusal}
use Rattle.survey_conf.specs.declared.fault.ConfRefusal.TheVariants.{Fault, OutOfMemory}
use Rattle.survey_conf.specs.declared.key.Key.TheVariants.{SurveyBitpix, SurveyBlank, SurveyVersion, SurveyRule}

-- the first kind of fault of a line of that form, where the lines before it say `earlier`
abbrev pub kind_of_pair : Entries → List ℕ → List ℕ → Option ConfKind
kind_of_pair earlier key value =
    if is_unknown key then Some Unknown
    else (if is_there earlier key then Some Twice
    else (if not (is_in_range key value) then Some Range
    else None))

-- the first kind of fault of a line
unfoldable pub kind_after : Entries → List ℕ → Option ConfKind
kind_after earlier written =
    if is_skipped written then None
    else (if not (has_form written) then Some Syntax
    else kind_of_pair earlier (key_in written) (value_in written))

-- a kind of fault as the fault of a line
abbrev pub at_line : ℕ → Option ConfKind → Option ConfFault
at_line line kind = option_map (λ k. record { line = line; kind = k }) kind

-- the fault of the line at place i, from 0; lines are reported from 1
abbrev pub fault_at : List (List ℕ) → ℕ → Option ConfFault
fault_at contents i = at_line (i + 1) (kind_after (entries (take i contents)) (slice_index_or contents i []))

-- the fault of the least line that has one
abbrev pub first_fault : List (List ℕ) → Option ConfFault
first_fault contents = slice_get (filter_map (fault_at contents) (range_with_len 0 (length contents))) 0

-- the blank number is one of the depth
abbrev pub is_blank_of_depth : Entries → Bool
is_blank_of_depth es =
    let bits = read_as bitpix 8 es SurveyBitpix in
    let blank = read_as whole (pos 0) es SurveyBlank in
    int_le (least_number bits) blank && int_le blank (greatest_number bits)

-- there is a way to combine, which only version 2 has
abbrev pub has_stray_rule : Entries → Bool
has_stray_rule es = is_there es (name SurveyRule) && (read_as version 1 es SurveyVersion == 1)

-- the fault of the lines together: a required key is not there, the blank number is none of the depth, or there is a
-- rule and the version is 1
unfoldable pub fault_together : Entries → Option ConfFault
fault_together es =
    if not (list_all (λ key. is_there es (name key)) required_keys) then Some (record { line = 0; kind = Missing })
    else (if not (is_blank_of_depth es) then Some (record { line = line_of es SurveyBlank; kind = Range })
    else (if has_stray_rule es then Some (record { line = line_of es SurveyRule; kind = Unknown })
    else None))

-- the fault that is reported of a description, and none where it is accepted
unfoldable pub fault_of : List ℕ → Option ConfFault
fault_of text = option_or (first_fault (contents text)) (fault_together (entries (contents text)))

-- the refusal is for this fault, or memory ran out
abbrev pub IsRefusedBy : Option ConfFault → ConfRefusal → Type 0
IsRefusedBy fault (Fault f) = fault ≡ Some f
IsRefusedBy fault OutOfMemory = Unit {0}
