-- Rule N1: each number by its name, in the order of the table of docs/RULES.md.
-- Assumes nothing.
use Rattle.std.specs.Prelude.{ℕ}
use Rattle.refusal.specs.declared.Refusal.{Refusal}

abbrev pub output_short : ℕ
output_short = 1

abbrev pub table_not_valid : ℕ
table_not_valid = 2

abbrev pub run_ended : ℕ
run_ended = 3

abbrev pub escape_wrong : ℕ
escape_wrong = 4

abbrev pub syn_early : ℕ
syn_early = 5

abbrev pub source_wrong : ℕ
source_wrong = 6

abbrev pub destination_wrong : ℕ
destination_wrong = 7

abbrev pub length_over : ℕ
length_over = 8

abbrev pub check_wrong : ℕ
check_wrong = 9

abbrev pub command_nacked : ℕ
command_nacked = 10

abbrev pub reply_nacked : ℕ
reply_nacked = 11

abbrev pub bus_error : ℕ
bus_error = 12

abbrev pub frame_length : ℕ
frame_length = 13

abbrev pub frame_head : ℕ
frame_head = 14

abbrev pub subcommand_wrong : ℕ
subcommand_wrong = 15

abbrev pub frame_check : ℕ
frame_check = 16

abbrev pub serial_over : ℕ
serial_over = 17

abbrev pub queue_full : ℕ
queue_full = 18

abbrev pub fill_over : ℕ
fill_over = 19

abbrev pub digit_wrong : ℕ
digit_wrong = 26

-- a number at a place
abbrev pub at_place : ℕ → ℕ → Refusal
at_place number place = record { number = number; place = place }
