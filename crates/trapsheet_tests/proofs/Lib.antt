mod Twice
