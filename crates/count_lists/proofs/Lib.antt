mod Widened
