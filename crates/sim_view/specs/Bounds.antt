-- How many instructions the parts of a step take at most, by contracts that several crates cite. The bound of a step up
-- to its dispatch is `bound_to_dispatch`, beside what the interpreter is.
use Rattle.std.specs.Prelude.{ℕ}

-- ADDR, from its entry to its return or to the stop
abbrev pub bound_of_address : ℕ
bound_of_address = 38

-- LOAD, from any place
abbrev pub bound_of_load : ℕ
bound_of_load = 15

-- LOAD, from the bytes that follow in GROM
abbrev pub bound_of_stream : ℕ
bound_of_stream = 10

-- STORE, to the cells or video memory
abbrev pub bound_of_store : ℕ
bound_of_store = 15

-- STORE, to a register of the video processor
abbrev pub bound_of_register_store : ℕ
bound_of_register_store = 9

-- the operands of a row, from the dispatch to the entry of the row, or to the stop
abbrev pub bound_to_row : ℕ
bound_to_row = 127

abbrev pub bound_to_row_stop : ℕ
bound_to_row_stop = 107

-- the operands, from the dispatch to GO
abbrev pub bound_of_operands : ℕ
bound_of_operands = 124

-- the first operand, from the dispatch: to OPSTWO, to GO in a row of one operand, or to the stop
abbrev pub bound_to_second_operand : ℕ
bound_to_second_operand = 65

abbrev pub bound_to_row_of_one : ℕ
bound_to_row_of_one = 69

abbrev pub bound_to_first_stop : ℕ
bound_to_first_stop = 44

-- the second operand, from OPSTWO to GO, or to the stop
abbrev pub bound_of_second_operand : ℕ
bound_of_second_operand = 59

abbrev pub bound_to_second_stop : ℕ
bound_to_second_stop = 42

-- SHOW, from its entry to the next step
abbrev pub bound_of_show : ℕ
bound_of_show = 28

-- STO, from its entry to the next step
abbrev pub bound_of_result : ℕ
bound_of_result = 45

-- the store of a result with its status, from STORE to the next step
abbrev pub bound_of_status : ℕ
bound_of_status = 44

-- the end of a step that goes on elsewhere in GROM, from where its address is known; with the condition cleared; and
-- with changes that are shown
abbrev pub bound_to_go_on : ℕ
bound_to_go_on = 2

abbrev pub bound_to_take_branch : ℕ
bound_to_take_branch = 5

abbrev pub bound_to_resume : ℕ
bound_to_resume = 31

-- from the entry of a row to the end of its step
abbrev pub bound_of_alu_row : ℕ
bound_of_alu_row = 50

abbrev pub bound_of_shift_row : ℕ
bound_of_shift_row = 61

abbrev pub bound_of_product_row : ℕ
bound_of_product_row = 67

abbrev pub bound_of_quotient_row : ℕ
bound_of_quotient_row = 91

abbrev pub bound_of_exchange_row : ℕ
bound_of_exchange_row = 67

abbrev pub bound_of_case_row : ℕ
bound_of_case_row = 25

-- MOVE, from the dispatch to its copy or its stop
abbrev pub bound_to_copy : ℕ
bound_to_copy = 160

-- MOVE's copy: from one byte to the next; and its beginning and its end together
abbrev pub bound_of_byte : ℕ
bound_of_byte = 31

abbrev pub most_beside_bytes : ℕ
most_beside_bytes = 41

-- the end of a copy
abbrev pub bound_to_end_copy : ℕ
bound_to_end_copy = 34
