-- Definitions over any list of numbers: a choice by a test, what a list starts with, and those that pass a test.
pub mod Choice
pub mod Starting
pub mod Tests
